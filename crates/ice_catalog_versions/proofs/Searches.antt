-- What a binary search in sorted paths finds.
use Rattle.std.proofs.Common.{◌≡◌, ◌≢◌, ℕ, ◌<◌, Bool, true, false, ◌||◌, List, [], ◌∷◌, length, get_or, map, refl, sym}
use Rattle.std.proofs.Common.{ap, ◌∙◌, Bor, ⊎_elim, arith}
use Rattle.std.specs.List.{list_any, HoldsAt}
use Rattle.std.specs.List.Sorted.{IsPartitionPoint}
use Rattle.std.specs.Ordering.{nat_cmp}
use Rattle.std.specs.Cmp.Lexicographic.{slice_cmp}
use Rattle.std.specs.Str.{bytes_eq}
use Rattle.std.specs.declared.cmp.Ordering.TheVariants.{Less, Equal, Greater}
use Rattle.std.proofs.lemmas.Bool.{cases_lt}
use Rattle.std.proofs.lemmas.Cmp.{nat_list_cmp_total, tied_itself}
use Rattle.std.proofs.lemmas.List.Folds.{list_any_at, list_any_none}
use Rattle.std.proofs.lemmas.Slice.Eq.{bytes_eq-Decides}
use Rattle.ice_value.specs.Equality.{list_same}
use Rattle.ice_catalog_versions.specs.Refusals.{is_among}

any_map : {A B : Type 0} (test : B → Bool) (f : A → B) (xs : List A)
    → list_any test (map f xs) ≡ list_any (λ x. test (f x)) xs
any_map test f [] = refl
any_map test f (x ∷ xs) = ap (λ b. test (f x) || b) (any_map test f xs)

-- paths that compare otherwise differ
differ : (a b : List ℕ) → slice_cmp nat_cmp a b ≢ Equal → bytes_eq b a ≡ false
differ a b h =
    let P : (v : Bool) → bytes_eq b a ≡ v → bytes_eq b a ≡ false =
    λ v. elim v as (λ v. bytes_eq b a ≡ v → bytes_eq b a ≡ false) [
      | true ↦ λ e. absurd (h (ap (slice_cmp nat_cmp a) ((bytes_eq-Decides b a).0 e) ∙ tied_itself nat_list_cmp_total
          a))
      | false ↦ λ e. e
    ] in
    P (bytes_eq b a) refl

module _ (paths : List (Bor (List ℕ))) (path : List ℕ) where
  pub is_there : (k : ℕ) (p : Bor (List ℕ)) → k < length paths
      → HoldsAt (λ (y : Bor (List ℕ)). slice_cmp nat_cmp y.now path ≡ Equal) paths k
      → is_among (map (λ (y : Bor (List ℕ)). y.now) paths) path ≡ true
  is_there k p lt h =
      any_map (bytes_eq path) (λ (y : Bor (List ℕ)). y.now) paths
      ∙ list_any_at (λ (y : Bor (List ℕ)). bytes_eq path y.now) paths k p lt
      ((bytes_eq-Decides path (get_or paths k p).now).1 (sym (list_same (get_or paths k p).now path (h p))))

  pub is_not_there : (i : ℕ) → IsPartitionPoint (λ (y : Bor (List ℕ)). slice_cmp nat_cmp y.now path ≡ Less)
      (λ (y : Bor (List ℕ)). slice_cmp nat_cmp y.now path ≡ Greater) paths i
      → is_among (map (λ (y : Bor (List ℕ)). y.now) paths) path ≡ false
  is_not_there i h =
      any_map (bytes_eq path) (λ (y : Bor (List ℕ)). y.now) paths
      ∙ list_any_none (λ (y : Bor (List ℕ)). bytes_eq path y.now) paths (λ k d lt. ⊎_elim
      (λ below. differ (get_or paths k d).now path (λ e. let l = h.0 k d (omega arith) below in cc))
      (λ above. differ (get_or paths k d).now path (λ e. let l = h.1 k d above lt in cc))
      (cases_lt k i))
