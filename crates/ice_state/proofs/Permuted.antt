-- Lists in other orders.
use Rattle.std.proofs.Common.{◌≡◌, ◌<◌, ℕ, zero, suc, ◌+◌, Bool, true, false, List, [], ◌∷◌, ◌++◌, length, filter, cond}
use Rattle.std.proofs.Common.{map, add-one, get_or, slice_set, refl, sym, ap, subst, ◌∙◌, arith, add-zero, append_assoc}
use Rattle.std.specs.List.{flat_map, range_with_len, swap}
use Rattle.std.specs.List.Sorted.{IsPermutation}
use Rattle.std.proofs.lemmas.List.{map-append}
use Rattle.std.proofs.lemmas.List.Edits.{swap_is}
use Rattle.std.proofs.lemmas.List.Sorted.{IsPermutation-refl, IsPermutation-trans, IsPermutation-sym}
use Rattle.std.proofs.lemmas.List.Sorted.{IsPermutation-keeps}
use Rattle.std.proofs.lemmas.List.Sorted.{IsPermutation-append_left, IsPermutation-append_right}
use Rattle.std.proofs.lemmas.List.Sorted.{IsPermutation-append_comm}

-- two pieces at the front change places
pub fronts : {X : Type 0} (a b c : List X) → IsPermutation (a ++ (b ++ c)) (b ++ (a ++ c))
fronts a b c =
    simp append_assoc at (IsPermutation-append_left c (a ++ b) (b ++ a) (IsPermutation-append_comm a b))

module _ {X Z : Type 0} (h : X → List Z) where
  -- one element in another's place
  replaced : (xs : List X) (j : ℕ) (x d : X) → j < length xs
      → IsPermutation (h (get_or xs j d) ++ flat_map h (slice_set xs j x)) (h x ++ flat_map h xs)
  replaced [] j x d lt = absurd (omega arith)
  replaced (y ∷ ys) zero x d lt = fronts (h y) (h x) (flat_map h ys)
  replaced (y ∷ ys) (suc j) x d lt =
      let other = h (get_or ys j d) in let rest = flat_map h (slice_set ys j x) in
      IsPermutation-trans (other ++ (h y ++ rest)) (h y ++ (other ++ rest)) (h x ++ (h y ++ flat_map h ys))
      (fronts other (h y) rest)
      (IsPermutation-trans (h y ++ (other ++ rest)) (h y ++ (h x ++ flat_map h ys)) (h x ++ (h y ++ flat_map h ys))
      (IsPermutation-append_right (h y) (other ++ rest) (h x ++ flat_map h ys) (replaced ys j x d (omega arith)))
      (fronts (h y) (h x) (flat_map h ys)))

  swapped : (xs : List X) (i j : ℕ) → i < length xs → j < length xs
      → IsPermutation (flat_map h xs) (flat_map h (swap xs i j))
  swapped [] i j a b = absurd (omega arith)
  swapped (x ∷ xs) zero zero a b = IsPermutation-refl (h x ++ flat_map h xs)
  swapped (x ∷ xs) zero (suc j) a b = IsPermutation-sym
      (h (get_or xs j x) ++ flat_map h (slice_set xs j x)) (h x ++ flat_map h xs) (replaced xs j x x (omega arith))
  swapped (x ∷ xs) (suc i) zero a b = IsPermutation-sym
      (h (get_or xs i x) ++ flat_map h (slice_set xs i x)) (h x ++ flat_map h xs) (replaced xs i x x (omega arith))
  swapped (x ∷ xs) (suc i) (suc j) a b =
      let P : List X → Type 0 = λ ys. IsPermutation (h x ++ flat_map h xs) (h x ++ flat_map h ys) in
      subst P (sym (swap_is xs i j x (omega arith) (omega arith)))
      (IsPermutation-append_right (h x) (flat_map h xs) (flat_map h (swap xs i j))
      (swapped xs i j (omega arith) (omega arith)))

  pub pieces_moved : (xs ys : List X) → IsPermutation xs ys → IsPermutation (flat_map h xs) (flat_map h ys)
  pieces_moved xs ys same =
      IsPermutation-keeps xs (λ zs. IsPermutation (flat_map h xs) (flat_map h zs)) (IsPermutation-refl (flat_map h xs))
      (λ zs i j a b before. IsPermutation-trans (flat_map h xs) (flat_map h zs) (flat_map h (swap zs i j)) before
      (swapped zs i j a b)) ys same

abbrev if_passes : {X : Type 0} → (X → Bool) → X → List X
if_passes p x = cond (p x) (x ∷ []) []

filter_pieces : {X : Type 0} (p : X → Bool) (xs : List X) → filter p xs ≡ flat_map (if_passes p) xs
filter_pieces p [] = refl
filter_pieces p (x ∷ xs) =
    elim (p x) as (λ b. cond b (x ∷ filter p xs) (filter p xs) ≡ cond b (x ∷ []) [] ++ flat_map (if_passes p) xs) [
      | true ↦ ap (λ ys. x ∷ ys) (filter_pieces p xs)
      | false ↦ filter_pieces p xs
    ]

-- what passes of a list in another order
pub filter_moved : {X : Type 0} (p : X → Bool) (xs ys : List X) → IsPermutation xs ys
    → IsPermutation (filter p xs) (filter p ys)
filter_moved {X} p xs ys same =
    let P : List X → List X → Type 0 = λ us vs. IsPermutation us vs in
    subst (λ (us : List X). P us (filter p ys)) (sym (filter_pieces p xs))
    (subst (λ (vs : List X). P (flat_map (if_passes p) xs) vs) (sym (filter_pieces p ys))
    (pieces_moved (if_passes p) xs ys same))

-- a longer range
pub range_more : (a n : ℕ) → range_with_len a (suc n) ≡ range_with_len a n ++ (a + n) ∷ []
range_more a zero = rw add-zero refl
range_more a (suc n) =
    let e : a + 1 + n ≡ a + suc n = omega arith in
    ap (λ l. a ∷ l) (range_more (a + 1) n ∙ ap (λ m. range_with_len (a + 1) n ++ m ∷ []) e)

pub range_next : (n : ℕ) → range_with_len 0 n ++ n ∷ [] ≡ range_with_len 0 (n + 1)
range_next n =
    let e : n ≡ 0 + n = omega arith in
    ap (λ m. range_with_len 0 n ++ m ∷ []) e ∙ sym (range_more 0 n) ∙ ap (range_with_len 0) (sym (add-one n))

-- numbers that count up, and one more
pub one_more : {X : Type 0} (f : X → ℕ) (xs new : List X) (x : X) (i : ℕ) → new ≡ xs ++ x ∷ [] → f x ≡ i
    → map f xs ≡ range_with_len 0 i → map f new ≡ range_with_len 0 (i + 1)
one_more f xs new x i is at before =
    ap (map f) is ∙ map-append f xs (x ∷ []) ∙ (λ j. before j ++ at j ∷ []) ∙ range_next i
