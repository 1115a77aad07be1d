-- Numbers that are held, and the files whose numbers aren't.
use Rattle.std.proofs.Common.{◌≡◌, ℕ, zero, suc, ◌+◌, ◌<◌, ◌≤◌, ◌==◌, Bool, true, false, not, ◌||◌, List, [], ◌∷◌}
use Rattle.std.proofs.Common.{◌++◌, length, take, map, filter, get_or, cond, refl, sym, ap, ◌∙◌, arith, append-nil}
use Rattle.std.proofs.Common.{eq-eqb, eqb-true, Result, Ok, Err, is_ok, slice_index, ◌⊎◌, inl, inr}
use Rattle.std.specs.List.{list_any}
use Rattle.std.specs.List.Sorted.{IsBinarySearchResult, IsSorted}
use Rattle.std.specs.Ordering.{nat_cmp}
use Rattle.std.proofs.lemmas.List.{map-append, take_more}
use Rattle.std.proofs.lemmas.List.Elements.{filter-append}
use Rattle.std.proofs.lemmas.List.Sorted.{IsNonDecreasingBy-from_sort, searched}
use Rattle.ice_value.specs.Applying.{DeleteKey}
use Rattle.ice_deletes.specs.declared.delete.Delete.{Delete}
use Rattle.ice_deletes.specs.Keys.{key_in, entry_of}
use Rattle.ice_deletes.specs.Unions.{renumbered, unheld}

any_at : (x : ℕ) (xs : List ℕ) (i : ℕ) → i < length xs → get_or xs i 0 ≡ x → list_any (λ n. n == x) xs ≡ true
any_at x [] i low h = absurd (omega arith)
any_at x (y ∷ ys) zero low h = let e : (y == x) ≡ true = eq-eqb y x h in ap (λ v. v || list_any (λ n. n == x) ys) e
any_at x (y ∷ ys) (suc i) low h = let e = any_at x ys i (omega arith) h in
    ap (λ v. (y == x) || v) e ∙ or_true (y == x)
  where
    or_true : (b : Bool) → (b || true) ≡ true
    or_true true = refl
    or_true false = refl

none_at : (x : ℕ) (xs : List ℕ) → ((k : ℕ) → k < length xs → get_or xs k 0 ≡ x → ⊥) → list_any (λ n. n == x) xs ≡ false
none_at x [] h = refl
none_at x (y ∷ ys) h = go (y == x) refl (none_at x ys (λ k low at. h (suc k) (omega arith) at)) where
  go : (b : Bool) → (y == x) ≡ b → list_any (λ n. n == x) ys ≡ false → (b || list_any (λ n. n == x) ys) ≡ false
  go true e rest = absurd (h 0 (omega arith) (eqb-true y x e))
  go false e rest = rest

-- a binary search tells whether a number is held
pub held_is : (xs : List ℕ) (x : ℕ) (r : Result ℕ ℕ) → IsBinarySearchResult (λ y. nat_cmp y x) xs r
    → IsSorted nat_cmp xs → is_ok r ≡ list_any (λ n. n == x) xs
held_is xs x (Ok i) h up =
    let rises = IsNonDecreasingBy-from_sort (λ (n : ℕ). n) xs up in
    let found = searched xs x (Ok i) h (λ i j le low. rises i j 0 le low) in
    sym (any_at x xs i found.0 found.1)
held_is xs x (Err i) h up =
    let rises = IsNonDecreasingBy-from_sort (λ (n : ℕ). n) xs up in
    let found = searched xs x (Err i) h (λ i j le low. rises i j 0 le low) in
    sym (none_at x xs (λ k low at. elim (side k i) [
      | inl before ↦ let less : get_or xs k 0 < x = found.1 k before in omega arith
      | inr behind ↦ let more : x < get_or xs k 0 = found.2 k behind low in omega arith
    ]))
  where
    side : (k i : ℕ) → (k < i) ⊎ (i ≤ k)
    side k i = grind arith

-- a file under its number here
abbrev under : List ℕ → Delete → ℕ × DeleteKey
under to d = (slice_index to d.number, key_in d)

abbrev isnt_held : List ℕ → ℕ × DeleteKey → Bool
isnt_held held e = not (list_any (λ n. n == e.0) held)

-- one file more
file_more : (held to : List ℕ) (fs : List Delete) (i : ℕ) (d : Delete) → i < length fs →
    unheld held (renumbered to (map entry_of (take (i + 1) fs)))
    ≡ unheld held (renumbered to (map entry_of (take i fs))) ++ filter (isnt_held held) (under to (get_or fs i d) ∷ [])
file_more held to fs i d low =
    ap (λ ds. unheld held (renumbered to (map entry_of ds))) (take_more fs i d low)
    ∙ ap (λ es. unheld held (renumbered to es)) (map-append entry_of (take i fs) (get_or fs i d ∷ []))
    ∙ ap (unheld held) (map-append (λ (e : ℕ × DeleteKey). (slice_index to e.0, e.1)) (map entry_of (take i fs))
    (entry_of (get_or fs i d) ∷ []))
    ∙ filter-append (isnt_held held) (renumbered to (map entry_of (take i fs))) (under to (get_or fs i d) ∷ [])

pub fresh_more : (held to : List ℕ) (fs : List Delete) (i : ℕ) (d : Delete) (ds : List Delete) (new : Delete) (n : ℕ)
    → i < length fs → d ≡ get_or fs i d → n ≡ slice_index to d.number
    → map entry_of ds ≡ unheld held (renumbered to (map entry_of (take i fs))) → entry_of new ≡ (n, key_in d)
    → not (list_any (λ m. m == n) held) ≡ true
    → map entry_of (ds ++ new ∷ []) ≡ unheld held (renumbered to (map entry_of (take (i + 1) fs)))
fresh_more held to fs i d ds new n low at number h e free =
    map-append entry_of ds (new ∷ [])
    ∙ ap (λ es. es ++ entry_of new ∷ []) h
    ∙ ap (λ v. unheld held (renumbered to (map entry_of (take i fs))) ++ v ∷ []) e
    ∙ ap (λ v. unheld held (renumbered to (map entry_of (take i fs))) ++ cond v ((n, key_in d) ∷ []) []) (sym free)
    ∙ ap (λ m. unheld held (renumbered to (map entry_of (take i fs))) ++ filter (isnt_held held) ((m, key_in d) ∷ []))
    number
    ∙ ap (λ v. unheld held (renumbered to (map entry_of (take i fs))) ++ filter (isnt_held held) (under to v ∷ [])) at
    ∙ sym (file_more held to fs i d low)

pub held_more : (held to : List ℕ) (fs : List Delete) (i : ℕ) (d : Delete) (ds : List Delete) (n : ℕ)
    → i < length fs → d ≡ get_or fs i d → n ≡ slice_index to d.number
    → map entry_of ds ≡ unheld held (renumbered to (map entry_of (take i fs)))
    → not (list_any (λ m. m == n) held) ≡ false
    → map entry_of ds ≡ unheld held (renumbered to (map entry_of (take (i + 1) fs)))
held_more held to fs i d ds n low at number h there =
    h
    ∙ sym (append-nil _)
    ∙ ap (λ v. unheld held (renumbered to (map entry_of (take i fs))) ++ cond v ((n, key_in d) ∷ []) [])
    (sym there)
    ∙ ap (λ m. unheld held (renumbered to (map entry_of (take i fs))) ++ filter (isnt_held held) ((m, key_in d) ∷ []))
    number
    ∙ ap (λ v. unheld held (renumbered to (map entry_of (take i fs))) ++ filter (isnt_held held) (under to v ∷ [])) at
    ∙ sym (file_more held to fs i d low)
