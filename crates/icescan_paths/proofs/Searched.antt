-- What a binary search in sorted paths tells.
use Rattle.std.proofs.Common.{◌≡◌, ◌≢◌, ℕ, Bool, true, false, ◌||◌, List, [], ◌∷◌, length, get_or, map, refl}
use Rattle.std.proofs.Common.{ap, sym, ◌∙◌, Bor, ⊎_elim, arith, Result, Ok, Err}
use Rattle.std.specs.List.{list_any}
use Rattle.std.specs.List.Sorted.{IsBinarySearchResult, IsPermutation, IsSearchInRange, IsSorted}
use Rattle.std.specs.Ordering.{nat_cmp}
use Rattle.std.specs.Cmp.Lexicographic.{slice_cmp}
use Rattle.std.specs.Ordering.{is_eq}
use Rattle.std.specs.Result.{is_ok}
use Rattle.std.specs.Str.{bytes_eq}
use Rattle.std.specs.declared.cmp.Ordering.TheVariants.{Equal}
use Rattle.std.proofs.lemmas.Bool.{cases_lt}
use Rattle.std.proofs.lemmas.Cmp.{nat_list_cmp_total, tied_itself}
use Rattle.std.proofs.lemmas.List.Folds.{list_any_at, list_any_none}
use Rattle.std.proofs.lemmas.List.Sorted.{IsPermutation-map, list_any-IsPermutation, searchable_from_sorted}
use Rattle.std.proofs.lemmas.Map.Text.{is_eq-slice_cmp}
use Rattle.std.proofs.lemmas.Slice.Eq.{bytes_eq-Decides}
use Rattle.icescan_paths.specs.Paths.{has, lent, path_order}

any_map : {A B : Type 0} (test : B → Bool) (f : A → B) (xs : List A)
    → list_any test (map f xs) ≡ list_any (λ x. test (f x)) xs
any_map test f [] = refl
any_map test f (x ∷ xs) = ap (λ b. test (f x) || b) (any_map test f xs)

-- paths that compare otherwise differ
differ : (a b : List ℕ) → slice_cmp nat_cmp a b ≢ Equal → bytes_eq a b ≡ false
differ a b h =
    let P : (v : Bool) → bytes_eq a b ≡ v → bytes_eq a b ≡ false =
    λ v. elim v as (λ v. bytes_eq a b ≡ v → bytes_eq a b ≡ false) [
      | true ↦ λ e. absurd (h (ap (λ x. slice_cmp nat_cmp x b) ((bytes_eq-Decides a b).0 e)
          ∙ tied_itself nat_list_cmp_total b))
      | false ↦ λ e. e
    ] in
    P (bytes_eq a b) refl

-- it finds a path exactly where that is one of them
pub search_tells : (paths : List (Bor (List ℕ))) (path : List ℕ) (r : Result ℕ ℕ)
    → IsSearchInRange r (length paths)
    → IsBinarySearchResult (λ (y : Bor (List ℕ)). slice_cmp nat_cmp y.now path) paths r → IsSorted path_order paths
    → is_ok r ≡ has (lent paths) path
search_tells paths path (Ok k) low h up =
    sym (any_map (λ p. bytes_eq p path) (λ (y : Bor (List ℕ)). y.now) paths ∙ found)
  where
    found : list_any (λ (y : Bor (List ℕ)). bytes_eq y.now path) paths ≡ true
    found = list_any_at (λ (y : Bor (List ℕ)). bytes_eq y.now path) paths k
        (record { ref_ptr = (0, 0); now = path }) low
        (sym (is_eq-slice_cmp (get_or paths k _).now path) ∙ ap is_eq (h _))
search_tells paths path (Err i) low h up =
    let parts = h (searchable_from_sorted nat_list_cmp_total (λ (y : Bor (List ℕ)). y.now) paths path up) in
    sym (any_map (λ p. bytes_eq p path) (λ (y : Bor (List ℕ)). y.now) paths
    ∙ list_any_none (λ (y : Bor (List ℕ)). bytes_eq y.now path) paths (λ k d lt. ⊎_elim
    (λ below. differ (get_or paths k d).now path (λ e. let l = parts.0 k d (omega arith) below in cc))
    (λ above. differ (get_or paths k d).now path (λ e. let l = parts.1 k d above lt in cc))
    (cases_lt k i)))

-- the order of the paths tells nothing
pub alike : (paths others : List (Bor (List ℕ))) → IsPermutation paths others → (path : List ℕ)
    → has (lent others) path ≡ has (lent paths) path
alike paths others same path = sym (list_any-IsPermutation (λ p. bytes_eq p path) (lent paths) (lent others)
    (IsPermutation-map (λ (y : Bor (List ℕ)). y.now) paths others same))
