-- Files with their numbers.
use Rattle.std.proofs.Common.{◌≡◌, ℕ, ◌+◌, ◌<◌, Bool, true, false, List, [], ◌∷◌, ◌++◌, length, take, map, filter}
use Rattle.std.proofs.Common.{get_or, cond, refl, sym, ap, ◌∙◌, arith, add-zero, append-nil}
use Rattle.std.specs.List.{enumerate_from, All, AllByRecursion}
use Rattle.std.specs.List.Sorted.{IsPermutation}
use Rattle.std.proofs.lemmas.List.{take_more, map-append, length-map, length-take-le}
use Rattle.std.proofs.lemmas.List.Elements.{filter-append, filter_passes, All-from_recursion}
use Rattle.std.proofs.lemmas.List.Elements.{recursion_from_All}
use Rattle.std.proofs.lemmas.List.Sorted.{All-permutation}
use Rattle.ice_value.specs.Applying.{DeleteKey}
use Rattle.ice_deletes.specs.declared.record.Record.{Record}
use Rattle.ice_deletes.specs.declared.delete.Delete.{Delete}
use Rattle.ice_deletes.specs.Keys.{key_of, key_in, entry_of}

enumerate_from-push : {X : Type 0} (n : ℕ) (xs : List X) (x : X)
    → enumerate_from n (xs ++ x ∷ []) ≡ enumerate_from n xs ++ (n + length xs, x) ∷ []
enumerate_from-push n [] x = rw add-zero refl
enumerate_from-push n (y ∷ xs) x =
    let e : n + 1 + length xs ≡ n + length (y ∷ xs) = omega arith in
    ap (λ es. (n, y) ∷ es) (enumerate_from-push (n + 1) xs x ∙ ap (λ k. enumerate_from (n + 1) xs ++ (k, x) ∷ []) e)

-- one record more
filed_more : (p : ℕ × DeleteKey → Bool) (rs : List Record) (i : ℕ) (d : Record) → i < length rs →
    filter p (enumerate_from 0 (map key_of (take (i + 1) rs))) ≡ filter p (enumerate_from 0 (map key_of (take i rs))) ++
    filter p ((i, key_of (get_or rs i d)) ∷ [])
filed_more p rs i d low =
    let many : length (map key_of (take i rs)) ≡ i = length-map (take i rs) key_of ∙ length-take-le i rs
    (omega arith) in
    ap (λ xs. filter p (enumerate_from 0 (map key_of xs))) (take_more rs i d low)
    ∙ ap (λ xs. filter p (enumerate_from 0 xs)) (map-append key_of (take i rs) (get_or rs i d ∷ []))
    ∙ ap (filter p) (enumerate_from-push 0 (map key_of (take i rs)) (key_of (get_or rs i d)))
    ∙ filter-append p (enumerate_from 0 (map key_of (take i rs))) _
    ∙ ap (λ k. filter p (enumerate_from 0 (map key_of (take i rs))) ++ filter p ((k, key_of (get_or rs i d)) ∷ []))
    (many_from many) where
      many_from : {n i : ℕ} → n ≡ i → 0 + n ≡ i
      many_from e = omega arith

pub kept_more : {X : Type 0} (entry : X → ℕ × DeleteKey) (p : ℕ × DeleteKey → Bool) (rs : List Record) (i : ℕ)
    (r : Record) (xs : List X) (x : X) → i < length rs → r ≡ get_or rs i r →
    map entry xs ≡ filter p (enumerate_from 0 (map key_of (take i rs))) → entry x ≡ (i, key_of r)
    → p (i, key_of r) ≡ true →
    map entry (xs ++ x ∷ []) ≡ filter p (enumerate_from 0 (map key_of (take (i + 1) rs)))
kept_more entry p rs i r xs x low at h e passes =
    map-append entry xs (x ∷ [])
    ∙ ap (λ es. es ++ entry x ∷ []) h
    ∙ ap (λ v. filter p (enumerate_from 0 (map key_of (take i rs))) ++ v ∷ []) e
    ∙ ap (λ v. filter p (enumerate_from 0 (map key_of (take i rs))) ++ cond v ((i, key_of r) ∷ []) []) (sym passes)
    ∙ ap (λ v. filter p (enumerate_from 0 (map key_of (take i rs))) ++ filter p ((i, key_of v) ∷ [])) at
    ∙ sym (filed_more p rs i r low)

pub left_more : {X : Type 0} (entry : X → ℕ × DeleteKey) (p : ℕ × DeleteKey → Bool) (rs : List Record) (i : ℕ)
    (r : Record) (xs : List X) → i < length rs → r ≡ get_or rs i r →
    map entry xs ≡ filter p (enumerate_from 0 (map key_of (take i rs))) → p (i, key_of r) ≡ false →
    map entry xs ≡ filter p (enumerate_from 0 (map key_of (take (i + 1) rs)))
left_more entry p rs i r xs low at h fails =
    h
    ∙ sym (append-nil _)
    ∙ ap (λ v. filter p (enumerate_from 0 (map key_of (take i rs))) ++ cond v ((i, key_of r) ∷ []) []) (sym fails)
    ∙ ap (λ v. filter p (enumerate_from 0 (map key_of (take i rs))) ++ filter p ((i, key_of v) ∷ [])) at
    ∙ sym (filed_more p rs i r low)

-- those that were filed by a test pass it
pub all_grouped : (p : DeleteKey → Bool) (ds : List Delete) (es : List (ℕ × DeleteKey))
    → IsPermutation (filter (λ e. p e.1) es) (map entry_of ds) → All (λ d. p (key_in d) ≡ true) ds
all_grouped p ds es filed =
    let P : ℕ × DeleteKey → Type 0 = λ e. p e.1 ≡ true in
    let passes : All P (map entry_of ds) = All-permutation P (filter (λ (e : ℕ × DeleteKey). p e.1) es)
    (map entry_of ds) filed (filter_passes (λ (e : ℕ × DeleteKey). p e.1) es) in
    All-from_recursion (λ d. P (entry_of d)) ds (each P ds (recursion_from_All P (map entry_of ds) passes))
  where
    each : (P : ℕ × DeleteKey → Type 0) (ds : List Delete) → AllByRecursion P (map entry_of ds)
        → AllByRecursion (λ (d : Delete). P (entry_of d)) ds
    each P [] all = tt
    each P (d ∷ ds) all = (all.0, each P ds all.1)
