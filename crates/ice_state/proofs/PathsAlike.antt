-- Entries in whatever order have the same paths by path, and where no two share one, they are sorted alike.
use Rattle.std.proofs.Common.{◌≡◌, ◌≤◌, ◌∙◌, ℕ, Bool, true, false, not, List, [], ◌∷◌, refl, sym, ap, subst, arith}
use Rattle.std.proofs.Common.{length}
use Rattle.std.proofs.Common.{cond, filter, is_lt, map, replicate}
use Rattle.std.specs.List.{AllByRecursion}
use Rattle.std.specs.List.Sorted.{IsPermutation, ties}
use Rattle.std.specs.Cmp.{IsStrictWeakOrder}
use Rattle.std.specs.Cmp.Lexicographic.{slice_cmp}
use Rattle.std.specs.Ordering.{nat_cmp}
use Rattle.std.specs.Str.{bytes_eq}
use Rattle.std.proofs.lemmas.Cmp.{nat_list_cmp_total}
use Rattle.std.proofs.lemmas.List.Sorted.{IsPermutation-map, length_permutation, ranks_by}
use Rattle.std.proofs.lemmas.Slice.Eq.{bytes_eq-Decides}
use Rattle.contract_words.specs.Sorting.{sorted}
use Rattle.contract_words.proofs.Sorted.{sorted_rises, sorted_ties, unique}
use Rattle.ice_manifest_reading.specs.declared.entry.Entry.{Entry}
use Rattle.ice_state.specs.declared.fault.FinishFault.{FinishFault}
use Rattle.ice_state.specs.declared.fault.FinishFault.TheVariants.{PathTwice}
use Rattle.ice_state.specs.Outcomes.{by_path, path_before, twice}
use Rattle.ice_state.proofs.Filters.{all_unit, and_true}
use Rattle.ice_state.proofs.Named.{sorted-mapped}
use Rattle.ice_state.proofs.PathsOnce.{not_true, tied_path}
use Rattle.ice_state.proofs.Permuted.{filter_moved}
use Rattle.ice_state.proofs.Sharing.{none_shared, one_path, order}
use Rattle.ice_state.proofs.SortedAlike.{fewer, sorted_alike}

abbrev path_of : Entry → List ℕ
path_of x = x.file.path

abbrev before : List ℕ → List ℕ → Bool
before p q = is_lt (slice_cmp nat_cmp p q)

of_paths : IsStrictWeakOrder before
of_paths = ranks_by nat_list_cmp_total (λ (p : List ℕ). p)

-- ---- paths in another order are sorted alike

all_one : {X : Type 0} (w : X) (xs : List X) → AllByRecursion (λ z. z ≡ w) xs → xs ≡ replicate (length xs) w
all_one w [] all = refl
all_one w (x ∷ xs) all = let rest = all_one w xs all.1 in λ i. all.0 i ∷ rest i

is_one : (w p : List ℕ) → ties before w p ≡ true → p ≡ w
is_one w p h =
    let both = and_true (not (before w p)) (not (before p w)) h in
    (bytes_eq-Decides p w).0 (one_path p w (not_true (before p w) both.1) (not_true (before w p) both.0))

tied_one : (w : List ℕ) (ps : List (List ℕ)) → AllByRecursion (λ p. p ≡ w) (filter (ties before w) ps)
tied_one w [] = tt
tied_one w (p ∷ ps) =
    let rest = tied_one w ps in
    let P : (b : Bool) → ties before w p ≡ b
    → AllByRecursion (λ q. q ≡ w) (cond b (p ∷ filter (ties before w) ps) (filter (ties before w) ps)) =
    λ b. elim b as (λ v. ties before w p ≡ v
    → AllByRecursion (λ q. q ≡ w) (cond v (p ∷ filter (ties before w) ps) (filter (ties before w) ps))) [
      | true ↦ λ h. (is_one w p h, rest)
      | false ↦ λ h. rest
    ] in
    P (ties before w p) refl

ties_alike : (ps qs : List (List ℕ)) → IsPermutation ps qs → (w : List ℕ)
    → filter (ties before w) ps ≡ filter (ties before w) qs
ties_alike ps qs same w =
    let many = length_permutation (filter (ties before w) ps) (filter (ties before w) qs)
    (filter_moved (ties before w) ps qs same) in
    all_one w (filter (ties before w) ps) (tied_one w ps) ∙ ap (λ n. replicate n w) (sym many)
    ∙ sym (all_one w (filter (ties before w) qs) (tied_one w qs))

paths_alike : (ps qs : List (List ℕ)) → IsPermutation ps qs → sorted before ps ≡ sorted before qs
paths_alike ps qs same = unique before of_paths (sorted before ps) (sorted before qs) (sorted_rises before of_paths ps)
    (sorted_rises before of_paths qs) (λ w. sorted_ties before of_paths w ps ∙ ties_alike ps qs same w
    ∙ sym (sorted_ties before of_paths w qs))

-- ---- what is shared, by the paths alone

abbrev shared : List (List ℕ) → List FinishFault
shared [] = []
shared (p ∷ []) = []
shared (p ∷ q ∷ ps) = cond (bytes_eq p q) (PathTwice p ∷ shared (q ∷ ps)) (shared (q ∷ ps))

by_paths : (xs : List Entry) → twice xs ≡ shared (map path_of xs)
by_paths [] = refl
by_paths (x ∷ []) = refl
by_paths (x ∷ y ∷ ys) = ap (λ (fs : List FinishFault).
    cond (bytes_eq x.file.path y.file.path) (PathTwice x.file.path ∷ fs) fs) (by_paths (y ∷ ys))

paths_by : (xs : List Entry) → map path_of (by_path xs) ≡ sorted before (map path_of xs)
paths_by xs = sorted-mapped path_of (λ x. Unit {0}) path_before before (λ a b p q. refl) xs (all_unit xs)

module _ (xs ys : List Entry) (same : IsPermutation xs ys) where
  pub twice_alike : twice (by_path ys) ≡ twice (by_path xs)
  twice_alike =
      by_paths (by_path ys)
      ∙ ap shared (paths_by ys
      ∙ sym (paths_alike (map path_of xs) (map path_of ys) (IsPermutation-map path_of xs ys same)) ∙ sym (paths_by xs))
      ∙ sym (by_paths (by_path xs))

  pub sorted_once : twice (by_path xs) ≡ [] → by_path ys ≡ by_path xs
  sorted_once once = sym (sorted_alike path_before order xs ys same (λ w.
      let most = none_shared (by_path xs) w.file.path (sorted_rises path_before order xs) once in
      let less = fewer (ties path_before w) (λ x. bytes_eq x.file.path w.file.path) (tied_path w) (by_path xs) in
      subst (λ (zs : List Entry). length zs ≤ 1) (sorted_ties path_before order w xs) (omega (arith, most, less))))
