-- An index by place, renumbered by the ranks that an order gives the places.
use Rattle.std.proofs.Common.{◌≡◌, ◌≢◌, ◌<◌, ◌+◌, ◌==◌, ℕ, suc, Bool, true, false, not, List, [], ◌∷◌}
use Rattle.std.proofs.Common.{length, map, get_or, slice_index, refl, sym, ap, subst, ◌∙◌, arith, add-zero}
use Rattle.std.specs.List.{All, AllPairs, enumerate_from, range_with_len}
use Rattle.std.specs.List.Sorted.{IsPermutation}
use Rattle.std.proofs.lemmas.Bool.{eqb-true, eqb-false, eq-eqb}
use Rattle.std.proofs.lemmas.Bool.Decides.{Decides-eqb}
use Rattle.std.proofs.lemmas.List.FromFn.{get_or-range_with_len, length-range_with_len}
use Rattle.std.proofs.lemmas.List.Sorted.{All-permutation, IsPermutation-map, IsPermutation-sym, IsPermutation-trans}
use Rattle.std.proofs.lemmas.List.Sorted.{length_permutation}
use Rattle.std.proofs.lemmas.Map.Made.{AllPairs-from_IsDistinct, IsDistinct-from_AllPairs}
use Rattle.std.proofs.lemmas.Map.Keys.{IsDistinct-IsPermutation}
use Rattle.ice_value.specs.Applying.{DeleteKey}
use Rattle.ice_value.specs.declared.file_content.FileContent.TheVariants.{Data}
use Rattle.ice_deletes.specs.Found.{holds, numbered_deletes}
use Rattle.ice_deletes.specs.Unions.{renumbered, AreBelow}
use Rattle.ice_state.proofs.JoinedIndexes.{filter_numbers, indexed_below, numbers_differ}
use Rattle.ice_state.proofs.Permuted.{filter_moved}

flips : (x y : ℕ) → (x == y) ≡ (y == x)
flips x y = elim (x == y) as (λ b. (x == y) ≡ b → b ≡ (y == x)) [
  | true ↦ λ h. sym (eq-eqb y x (sym (eqb-true x y h)))
  | false ↦ λ h. other (y == x) refl h
] refl
  where
    other : (b : Bool) → (y == x) ≡ b → (x == y) ≡ false → false ≡ b
    other true h k = absurd (eqb-false x y k (sym (eqb-true y x h)))
    other false h k = refl

-- ---- an order of all places

module _ (n : ℕ) (order : List ℕ) (all : IsPermutation (range_with_len 0 n) order) where
  pub order_many : length order ≡ n
  order_many = length_permutation (range_with_len 0 n) order all ∙ length-range_with_len 0 n

  pub order_below : All (λ k. k < n) order
  order_below = All-permutation (λ k. k < n) (range_with_len 0 n) order all (λ k d low.
      let many = length-range_with_len 0 n in
      let at = get_or-range_with_len 0 n k d (omega arith) in
      omega arith)

  pub order_once : AllPairs (λ i j. i ≢ j) order
  order_once =
      let e : ℕ → ℕ → Bool = λ x y. x == y in
      AllPairs-from_IsDistinct {eq = e} Decides-eqb order
      (IsDistinct-IsPermutation e flips (range_with_len 0 n) order all
      (IsDistinct-from_AllPairs {eq = e} Decides-eqb (range_with_len 0 n)
      (numbers_differ 0 n (range_with_len 0 n) refl)))

-- ---- files by their ranks

-- the files, by what their keys are at their places
by_place : (key : ℕ → DeleteKey) (keys : List DeleteKey) (m : ℕ)
    → ((k : ℕ) (d : DeleteKey) → k < length keys → get_or keys k d ≡ key (m + k))
    → enumerate_from m keys ≡ map (λ k. (k, key k)) (range_with_len m (length keys))
by_place key [] m h = refl
by_place key (k ∷ ks) m h =
    let first : k ≡ key m = h 0 k (omega arith) ∙ ap key (add-zero m) in
    let step : (i : ℕ) → m + suc i ≡ m + 1 + i = λ i. omega arith in
    let rest = by_place key ks (m + 1) (λ i d low. h (suc i) d (omega arith) ∙ ap key (step i)) in
    λ j. (m, first j) ∷ rest j

ranked_there : (rank : ℕ → ℕ) (key : ℕ → DeleteKey) (order : List ℕ) (m : ℕ)
    → ((k : ℕ) → k < length order → rank (slice_index order k) ≡ m + k)
    → map (λ k. (rank k, key k)) order ≡ enumerate_from m (map key order)
ranked_there rank key [] m h = refl
ranked_there rank key (k ∷ ks) m h =
    let first : rank k ≡ m = h 0 (omega arith) ∙ add-zero m in
    let step : (i : ℕ) → m + suc i ≡ m + 1 + i = λ i. omega arith in
    let rest = ranked_there rank key ks (m + 1) (λ i low. h (suc i) (omega arith) ∙ step i) in
    λ j. (first j, key k) ∷ rest j

map_twice : {X Y Z : Type 0} (f : X → Y) (g : Y → Z) (xs : List X) → map g (map f xs) ≡ map (λ x. g (f x)) xs
map_twice f g [] = refl
map_twice f g (x ∷ xs) = ap (λ ys. g (f x) ∷ ys) (map_twice f g xs)

module _ (key : ℕ → DeleteKey) (keys : List DeleteKey) (index : List (ℕ × DeleteKey)) (order ranks : List ℕ)
    (keyed : (k : ℕ) (d : DeleteKey) → k < length keys → get_or keys k d ≡ key k)
    (same : IsPermutation (numbered_deletes keys) index)
    (all : IsPermutation (range_with_len 0 (length keys)) order) (many : length ranks ≡ length order)
    (ranked : (k : ℕ) → k < length order → slice_index ranks (slice_index order k) ≡ k) where
  abbrev is_delete : ℕ × DeleteKey → Bool
  is_delete e = not (holds Data e.1)

  abbrev rank : ℕ × DeleteKey → ℕ × DeleteKey
  rank e = (slice_index ranks e.0, e.1)

  pub index_ranked : AreBelow (length ranks) index
  index_ranked =
      let n : length ranks ≡ length keys = many ∙ order_many (length keys) order all in
      indexed_below keys index (length ranks) (omega arith) same

  -- all files by their ranks
  all_ranked : IsPermutation (map rank (enumerate_from 0 keys)) (enumerate_from 0 (map key order))
  all_ranked =
      let range = range_with_len 0 (length keys) in
      let z : (k : ℕ) → k ≡ 0 + k = λ k. omega arith in
      let files : map rank (enumerate_from 0 keys) ≡ map (λ k. (slice_index ranks k, key k)) range =
      ap (map rank) (by_place key keys 0 (λ k d low. keyed k d low ∙ ap key (z k)))
      ∙ map_twice (λ k. (k, key k)) rank range in
      let there = ranked_there (slice_index ranks) key order 0 (λ k low. ranked k low ∙ z k) in
      let P : List (ℕ × DeleteKey) → List (ℕ × DeleteKey) → Type 0 = λ xs ys. IsPermutation xs ys in
      subst (λ (xs : List (ℕ × DeleteKey)). P xs (enumerate_from 0 (map key order))) (sym files)
      (subst (λ (ys : List (ℕ × DeleteKey)). P (map (λ k. (slice_index ranks k, key k)) range) ys) there
      (IsPermutation-map (λ k. (slice_index ranks k, key k)) range order all))

  pub index_by_ranks : IsPermutation (numbered_deletes (map key order)) (renumbered ranks index)
  index_by_ranks =
      let here = filter_moved is_delete (map rank (enumerate_from 0 keys))
      (enumerate_from 0 (map key order)) all_ranked in
      let moved = subst (λ (xs : List (ℕ × DeleteKey)). IsPermutation xs (numbered_deletes (map key order)))
      (filter_numbers (slice_index ranks) (λ d. not (holds Data d)) (enumerate_from 0 keys)) here in
      IsPermutation-trans (numbered_deletes (map key order)) (map rank (numbered_deletes keys)) (renumbered ranks index)
      (IsPermutation-sym (map rank (numbered_deletes keys)) (numbered_deletes (map key order)) moved)
      (IsPermutation-map rank (numbered_deletes keys) index same)
