-- Rows of different paths, put in order, rise strictly.
use Rattle.std.proofs.Common.{◌≡◌, ℕ, Bool, true, false, cond, List, [], ◌∷◌, ◌++◌, refl, sym, ◌∙◌, ap}
use Rattle.std.specs.declared.cmp.Ordering.{Ordering}
use Rattle.std.specs.declared.cmp.Ordering.TheVariants.{Less, Equal, Greater}
use Rattle.std.specs.Ordering.{is_eq, is_lt}
use Rattle.std.specs.List.{AllByRecursion}
use Rattle.std.specs.List.Sorted.{IsStrictlySortedBy}
use Rattle.std.specs.Str.{bytes_eq}
use Rattle.std.proofs.lemmas.Cmp.{nat_list_cmp_total}
use Rattle.std.proofs.lemmas.Map.Text.{is_eq-slice_cmp}
use Rattle.std.proofs.lemmas.Slice.Eq.{bytes_eq-Decides}
use Rattle.contract_words.specs.Sorting.{put, sorted}
use Rattle.ice_manifest_reading.specs.declared.row.Row.{Row}
use Rattle.ice_manifest_reading.specs.Lists.{path_before, path_order}
use Rattle.ice_manifest_reading.proofs.Rising.{less_from}
use Rattle.ice_catalog_versions.proofs.Writable.{all_append, all_put, all_sorted}

abbrev pub IsOther : Row → Row → Type 0
IsOther r s = r.path ≡ s.path → ⊥

-- no two have one path
abbrev pub AreOthers : List Row → Type 0
AreOthers [] = Unit {0}
AreOthers (r ∷ rows) = AllByRecursion (IsOther r) rows × AreOthers rows

other_bytes : (a b : List ℕ) → (a ≡ b → ⊥) → bytes_eq b a ≡ false
other_bytes a b other = here (bytes_eq b a) refl where
  here : (x : Bool) → bytes_eq b a ≡ x → x ≡ false
  here true e = absurd (other (sym ((bytes_eq-Decides b a).0 e)))
  here false e = refl

before_less : (o : Ordering) → is_lt o ≡ true → o ≡ Less
before_less Less e = refl
before_less Equal e = absurd cc
before_less Greater e = absurd cc

all_after : (r s : Row) (rows : List Row) → path_order r s ≡ Less → AllByRecursion (λ t. path_order s t ≡ Less) rows
    → AllByRecursion (λ t. path_order r t ≡ Less) rows
all_after r s [] h all = tt
all_after r s (t ∷ rows) h all = (nat_list_cmp_total.trans r.path s.path t.path h all.0, all_after r s rows h all.1)

strict_put : (r : Row) (rows : List Row) → IsStrictlySortedBy path_order rows → AllByRecursion (IsOther r) rows
    → IsStrictlySortedBy path_order (put path_before r rows)
unfolding IsStrictlySortedBy
strict_put r [] rises others = (tt, tt)
strict_put r (s ∷ rows) rises others =
    let P : Bool → Type 0 = λ b. path_before s r ≡ b
    → IsStrictlySortedBy path_order (cond b (s ∷ put path_before r rows) (r ∷ s ∷ rows)) in
    let at : (b : Bool) → P b =
    λ b. elim b as P [
      | true ↦ λ e. (
        all_put (λ t. path_order s t ≡ Less) path_before r rows (before_less (path_order s r) e) rises.0,
        strict_put r rows rises.1 others.1,
      )
      | false ↦ λ e.
          let less : path_order r s ≡ Less = less_from r.path s.path e (other_bytes r.path s.path others.0) in
          ((less, all_after r s rows less rises.0), rises)
    ] in
    at (path_before s r) refl

strict_sorted : (rows : List Row) → AreOthers rows → IsStrictlySortedBy path_order (sorted path_before rows)
unfolding IsStrictlySortedBy
strict_sorted [] others = tt
strict_sorted (r ∷ rows) others = strict_put r (sorted path_before rows) (strict_sorted rows others.1)
    (all_sorted (IsOther r) path_before rows others.0)

less_other : (r s : Row) → path_order r s ≡ Less → IsOther r s
less_other r s less same =
    let eq : is_eq (path_order r s) ≡ true = is_eq-slice_cmp r.path s.path ∙ (bytes_eq-Decides r.path s.path).1 same in
    let no : false ≡ true = sym (ap is_eq less) ∙ eq in
    absurd cc

all_less : (r : Row) (rows : List Row) → AllByRecursion (λ t. path_order r t ≡ Less) rows
    → AllByRecursion (IsOther r) rows
all_less r [] h = tt
all_less r (s ∷ rows) h = (less_other r s h.0, all_less r rows h.1)

all_others : (rows news : List Row) → IsStrictlySortedBy path_order rows → AreOthers news
    → AllByRecursion (λ r. AllByRecursion (IsOther r) news) rows → AreOthers (rows ++ news)
unfolding IsStrictlySortedBy
all_others [] news rises new apart = new
all_others (r ∷ rows) news rises new apart = (
  all_append (IsOther r) rows news (all_less r rows rises.0) apart.0,
  all_others rows news rises.1 new apart.1,
)

pub rise : (rows news : List Row) → IsStrictlySortedBy path_order rows → AreOthers news
    → AllByRecursion (λ r. AllByRecursion (IsOther r) news) rows
    → IsStrictlySortedBy path_order (sorted path_before (rows ++ news))
rise rows news rises new apart = strict_sorted (rows ++ news) (all_others rows news rises new apart)
