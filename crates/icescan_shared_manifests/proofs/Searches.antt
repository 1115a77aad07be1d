-- What a binary search finds among rows whose paths rise.
use Rattle.std.proofs.Common.{◌≡◌, ℕ, zero, suc, ◌<◌, Bool, true, false, ◌||◌, List, [], ◌∷◌, length, get_or, refl, sym}
use Rattle.std.proofs.Common.{ap, subst, ◌∙◌, arith, add-one, ⊎_elim}
use Rattle.std.specs.List.{AllByRecursion}
use Rattle.std.specs.List.Sorted.{IsPartitionPoint, IsSortedBy, IsStrictlySortedBy}
use Rattle.std.specs.Ordering.{is_lt, nat_cmp, ordering_reverse}
use Rattle.std.specs.Cmp.Lexicographic.{slice_cmp}
use Rattle.std.specs.declared.cmp.Ordering.TheVariants.{Less, Equal, Greater}
use Rattle.std.proofs.lemmas.Bool.{cases_lt}
use Rattle.std.proofs.lemmas.Cmp.{nat_list_cmp_total, tied_itself}
use Rattle.std.proofs.lemmas.List.Folds.{list_any_none}
use Rattle.ice_value.specs.Equality.{list_same}
use Rattle.ice_manifest_reading.specs.Equality.{same_is}
use Rattle.ice_manifest_reading.specs.Lists.{path_before, path_order, same_row}
use Rattle.ice_manifest_reading.specs.declared.row.Row.{Row}
use Rattle.icescan_shared_manifests.specs.Shared.{has_row}

-- ---- paths that rise

after : (r s : Row) → path_order r s ≡ Less → path_before s r ≡ false
after r s h = ap is_lt (nat_list_cmp_total.antisymm s.path r.path ∙ ap ordering_reverse h)

next : (rows : List Row) (k : ℕ) (d : Row) → suc k < length rows → IsStrictlySortedBy path_order rows
    → path_before (get_or rows (suc k) d) (get_or rows k d) ≡ false
unfolding IsStrictlySortedBy
next [] k d lt h = absurd (omega arith)
next (r ∷ []) k d lt h = absurd (omega arith)
next (r ∷ s ∷ rows) zero d lt h = after r s h.0.0
next (r ∷ s ∷ rows) (suc k) d lt h = next (s ∷ rows) k d (omega arith) h.1

pub sorted_of : (rows : List Row) → IsStrictlySortedBy path_order rows → IsSortedBy path_before rows
sorted_of rows h k d low lt =
    ap (λ n. path_before (get_or rows n d) (get_or rows k d)) (add-one k) ∙ next rows k d (omega arith) h

all_at : (P : Row → Type 0) (rows : List Row) (k : ℕ) (d : Row) → k < length rows → AllByRecursion P rows
    → P (get_or rows k d)
all_at P [] k d lt h = absurd (omega arith)
all_at P (r ∷ rows) zero d lt h = h.0
all_at P (r ∷ rows) (suc k) d lt h = all_at P rows k d (omega arith) h.1

-- ---- the row of a path

one_path : (r s : Row) → path_order r s ≡ Equal → r.path ≡ s.path
one_path r s h = list_same r.path s.path h

unlike : (r s : Row) → (path_order r s ≡ Equal → ⊥) → same_row r s ≡ false
unlike r s h =
    let P : (v : Bool) → same_row r s ≡ v → same_row r s ≡ false =
    λ v. elim v as (λ v. same_row r s ≡ v → same_row r s ≡ false) [
      | true ↦ λ e. absurd (h (ap (λ (x : Row). path_order x s) (same_is r s e)
          ∙ tied_itself nat_list_cmp_total s.path))
      | false ↦ λ e. e
    ] in
    P (same_row r s) refl

less_is_unlike : (r s : Row) → path_order r s ≡ Less → same_row r s ≡ false
less_is_unlike r s h = unlike r s (λ e. let clash : Less ≡ Equal = sym h ∙ e in absurd cc)

more_is_unlike : (r s : Row) → path_order r s ≡ Greater → same_row r s ≡ false
more_is_unlike r s h = unlike r s (λ e. let clash : Greater ≡ Equal = sym h ∙ e in absurd cc)

none_behind : (rows : List Row) (row : Row) → AllByRecursion (λ r. path_order row r ≡ Less) rows
    → has_row rows row ≡ false
none_behind [] row h = refl
none_behind (r ∷ rows) row h = rw (
  more_is_unlike r row (nat_list_cmp_total.antisymm r.path row.path ∙ ap ordering_reverse h.0),
  none_behind rows row h.1,
) refl

or_false : (b : Bool) → (b || false) ≡ b
or_false true = refl
or_false false = refl

-- where one of the path is found, the row is there only as this one
pub is_found : (rows : List Row) (row : Row) (k : ℕ) (d : Row) → IsStrictlySortedBy path_order rows → k < length rows
    → path_order (get_or rows k d) row ≡ Equal → has_row rows row ≡ same_row (get_or rows k d) row
unfolding IsStrictlySortedBy
is_found [] row k d up lt h = absurd (omega arith)
is_found (r ∷ rows) row zero d up lt h =
    let path : r.path ≡ row.path = one_path r row h in
    let behind = subst (λ p. AllByRecursion (λ (t : Row). slice_cmp nat_cmp p t.path ≡ Less) rows) path up.0 in
    ap (λ b. same_row r row || b) (none_behind rows row behind) ∙ or_false (same_row r row)
is_found (r ∷ rows) row (suc k) d up lt h =
    let x = get_or rows k d in
    let before : path_order r x ≡ Less = all_at (λ t. path_order r t ≡ Less) rows k d (omega arith) up.0 in
    let less : path_order r row ≡ Less = subst (λ p. slice_cmp nat_cmp r.path p ≡ Less) (one_path x row h) before in
    ap (λ b. b || has_row rows row) (less_is_unlike r row less) ∙ is_found rows row k d up.1 (omega arith) h

-- where none of the path is found, the row is not there
pub is_not_found : (rows : List Row) (row : Row) (i : ℕ)
    → IsPartitionPoint (λ (r : Row). path_order r row ≡ Less) (λ (r : Row). path_order r row ≡ Greater) rows i
    → has_row rows row ≡ false
is_not_found rows row i h =
    list_any_none (λ (other : Row). same_row other row) rows (λ k d lt. ⊎_elim
    (λ below. less_is_unlike (get_or rows k d) row (h.0 k d (omega arith) below))
    (λ above. more_is_unlike (get_or rows k d) row (h.1 k d above lt))
    (cases_lt k i))
