-- No finding says that a path is live twice just where each path is of one live file.
use Rattle.std.proofs.Common.{◌≡◌, Bool, true, false, List, [], ◌∷◌, ◌++◌, refl, sym, ap, ◌∙◌, cond, Ordering, Equal}
use Rattle.std.proofs.Common.{Greater, Less, is_eq, is_lt, nat_cmp}
use Rattle.std.proofs.lemmas.Cmp.{nat_list_cmp_total}
use Rattle.std.proofs.lemmas.List.Sorted.{ranks_by}
use Rattle.std.proofs.lemmas.Map.Text.{is_eq-slice_cmp}
use Rattle.std.specs.Cmp.{IsStrictWeakOrder}
use Rattle.std.specs.Cmp.Lexicographic.{slice_cmp}
use Rattle.std.specs.List.{AllByRecursion, IsDistinct}
use Rattle.std.specs.Ordering.{ordering_reverse}
use Rattle.contract_words.specs.Sorting.{put, sorted}
use Rattle.contract_words.proofs.Sorted.{Rises, sorted_rises}
use Rattle.icescan_audit_findings.specs.Repeats.{has_path_of, path_before, repeat_where, repeats, repeats_behind}
use Rattle.icescan_audit_findings.specs.Repeats.{repeats_in, spelling_of}
use Rattle.icescan_audit_findings.specs.declared.finding.Finding.{Finding}
use Rattle.icescan_audit_findings.specs.declared.repeats.LiveFile.{LiveFile}

-- ---- the order of paths

order : IsStrictWeakOrder path_before
order = ranks_by nat_list_cmp_total spelling_of

abbrev by_path : LiveFile → LiveFile → Ordering
by_path a b = slice_cmp nat_cmp (spelling_of a) (spelling_of b)

one_path : (a b : LiveFile) → has_path_of a b ≡ is_eq (by_path a b)
one_path a b = sym (is_eq-slice_cmp (spelling_of a) (spelling_of b))

turned : (a b : LiveFile) → by_path b a ≡ ordering_reverse (by_path a b)
turned a b = nat_list_cmp_total.antisymm (spelling_of b) (spelling_of a)

strict_by : (r s : Ordering) → s ≡ ordering_reverse r → is_lt s ≡ false → is_eq r ≡ false → is_lt r ≡ true
strict_by Less s h low apart = refl
strict_by Equal s h low apart = absurd cc
strict_by Greater s h low apart = let less : true ≡ false = sym (ap is_lt h) ∙ low in absurd cc

apart_by : (r s : Ordering) → s ≡ ordering_reverse r → is_eq r ≡ false → is_eq s ≡ false
apart_by Less s h apart = ap is_eq h
apart_by Equal s h apart = absurd cc
apart_by Greater s h apart = ap is_eq h

between_by : (r a b : Ordering) → (r ≡ Equal → a ≡ b) → is_lt a ≡ true → is_lt b ≡ false → is_eq r ≡ false
between_by Less a b same first low = refl
between_by Equal a b same first low = let less : true ≡ false = sym first ∙ ap is_lt (same refl) ∙ low in absurd cc
between_by Greater a b same first low = refl

-- of two paths that differ, the one that is not later is before
strict : (x y : LiveFile) → path_before y x ≡ false → has_path_of x y ≡ false → path_before x y ≡ true
strict x y low apart = strict_by (by_path x y) (by_path y x) (turned x y) low (sym (one_path x y) ∙ apart)

apart_turned : (x y : LiveFile) → has_path_of x y ≡ false → has_path_of y x ≡ false
apart_turned x y apart =
    one_path y x ∙ apart_by (by_path x y) (by_path y x) (turned x y) (sym (one_path x y) ∙ apart)

-- what is not before a later path has another
apart_behind : (x y z : LiveFile) → path_before x y ≡ true → path_before z y ≡ false → has_path_of x z ≡ false
apart_behind x y z first low =
    one_path x z ∙ between_by (by_path x z) (by_path x y) (by_path z y)
    (λ is. nat_list_cmp_total.congr (spelling_of x) (spelling_of z) (spelling_of y) is) first low

apart_all : (x y : LiveFile) (zs : List LiveFile) → path_before x y ≡ true
    → AllByRecursion (λ z. path_before z y ≡ false) zs → AllByRecursion (λ z. has_path_of x z ≡ false) zs
apart_all x y [] first low = tt
apart_all x y (z ∷ zs) first low = (apart_behind x y z first low.0, apart_all x y zs first low.1)

-- ---- sorting keeps files apart

module _ (P : LiveFile → Type 0) where
  all_step : (b : Bool) (x y : LiveFile) (ys zs : List LiveFile)
      → (AllByRecursion P zs → P x × AllByRecursion P ys)
      → AllByRecursion P (cond b (y ∷ zs) (x ∷ y ∷ ys)) → P x × AllByRecursion P (y ∷ ys)
  all_step true x y ys zs rest h = let r = rest h.1 in (r.0, (h.0, r.1))
  all_step false x y ys zs rest h = h

  all_put : (x : LiveFile) (ys : List LiveFile) → AllByRecursion P (put path_before x ys) → P x × AllByRecursion P ys
  all_put x [] h = h
  all_put x (y ∷ ys) h = all_step (path_before y x) x y ys (put path_before x ys) (all_put x ys) h

  put_step : (b : Bool) (x y : LiveFile) (ys zs : List LiveFile) → P x → AllByRecursion P (y ∷ ys)
      → AllByRecursion P zs → AllByRecursion P (cond b (y ∷ zs) (x ∷ y ∷ ys))
  put_step true x y ys zs one all rest = (all.0, rest)
  put_step false x y ys zs one all rest = (one, all)

  put_all : (x : LiveFile) (ys : List LiveFile) → P x → AllByRecursion P ys → AllByRecursion P (put path_before x ys)
  put_all x [] one all = (one, all)
  put_all x (y ∷ ys) one all =
      put_step (path_before y x) x y ys (put path_before x ys) one all (put_all x ys one all.1)

  all_sorted : (xs : List LiveFile) → AllByRecursion P (sorted path_before xs) → AllByRecursion P xs
  all_sorted [] h = tt
  all_sorted (x ∷ xs) h = let r = all_put x (sorted path_before xs) h in (r.0, all_sorted xs r.1)

  sorted_all : (xs : List LiveFile) → AllByRecursion P xs → AllByRecursion P (sorted path_before xs)
  sorted_all [] h = tt
  sorted_all (x ∷ xs) h = put_all x (sorted path_before xs) h.0 (sorted_all xs h.1)

abbrev AreApart : List LiveFile → Type 0
AreApart files = IsDistinct has_path_of files

abbrev IsApart : LiveFile → List LiveFile → Type 0
IsApart x ys = AllByRecursion (λ y. has_path_of x y ≡ false) ys

taken_step : (b : Bool) (x y : LiveFile) (ys zs : List LiveFile) → (AreApart zs → IsApart x ys × AreApart ys)
    → (IsApart y zs → (has_path_of y x ≡ false) × IsApart y ys) → AreApart (cond b (y ∷ zs) (x ∷ y ∷ ys))
    → IsApart x (y ∷ ys) × AreApart (y ∷ ys)
unfolding IsDistinct
taken_step true x y ys zs rest first h =
    let r = rest h.1 in
    let f = first h.0 in
    ((apart_turned y x f.0, r.0), (f.1, r.1))
taken_step false x y ys zs rest first h = h

put_taken : (x : LiveFile) (ys : List LiveFile) → AreApart (put path_before x ys) → IsApart x ys × AreApart ys
unfolding IsDistinct
put_taken x [] h = (tt, tt)
put_taken x (y ∷ ys) h = taken_step (path_before y x) x y ys (put path_before x ys) (put_taken x ys)
    (all_put (λ z. has_path_of y z ≡ false) x ys) h

apart_step : (b : Bool) (x y : LiveFile) (ys zs : List LiveFile) → IsApart x (y ∷ ys) → AreApart (y ∷ ys)
    → IsApart y zs → AreApart zs → AreApart (cond b (y ∷ zs) (x ∷ y ∷ ys))
unfolding IsDistinct
apart_step true x y ys zs one all first rest = (first, rest)
apart_step false x y ys zs one all first rest = (one, all)

put_apart : (x : LiveFile) (ys : List LiveFile) → IsApart x ys → AreApart ys → AreApart (put path_before x ys)
unfolding IsDistinct
put_apart x [] one all = (tt, tt)
put_apart x (y ∷ ys) one all =
    apart_step (path_before y x) x y ys (put path_before x ys) one all
    (put_all (λ z. has_path_of y z ≡ false) x ys (apart_turned x y one.0) all.0) (put_apart x ys one.1 all.1)

from_sorted : (xs : List LiveFile) → AreApart (sorted path_before xs) → AreApart xs
unfolding IsDistinct
from_sorted [] h = tt
from_sorted (x ∷ xs) h =
    let r = put_taken x (sorted path_before xs) h in
    (all_sorted (λ z. has_path_of x z ≡ false) xs r.0, from_sorted xs r.1)

to_sorted : (xs : List LiveFile) → AreApart xs → AreApart (sorted path_before xs)
unfolding IsDistinct
to_sorted [] h = tt
to_sorted (x ∷ xs) h = put_apart x (sorted path_before xs) (sorted_all (λ z. has_path_of x z ≡ false) xs h.0)
    (to_sorted xs h.1)

-- ---- of sorted files, those that have the path of the one before

none_where : (b : Bool) (y : LiveFile) (rest : List Finding) → repeat_where b y ++ rest ≡ []
    → (b ≡ false) × (rest ≡ [])
none_where true y rest h = absurd cc
none_where false y rest h = (refl, h)

where_none : (b : Bool) (y : LiveFile) (rest : List Finding) → b ≡ false → rest ≡ [] → repeat_where b y ++ rest ≡ []
where_none true y rest h none = absurd cc
where_none false y rest h none = none

behind_apart : (x : LiveFile) (ys : List LiveFile) → Rises path_before order (x ∷ ys) → repeats_behind x ys ≡ []
    → IsApart x ys × AreApart ys
unfolding IsDistinct
behind_apart x [] rises h = (tt, tt)
behind_apart x (y ∷ ys) rises h =
    let none = none_where (has_path_of x y) y (repeats_behind y ys) h in
    let first = strict x y rises.0.0 none.0 in
    ((none.0, apart_all x y ys first rises.1.0), behind_apart y ys rises.1 none.1)

apart_behind_none : (x : LiveFile) (ys : List LiveFile) → IsApart x ys → AreApart ys → repeats_behind x ys ≡ []
unfolding IsDistinct
apart_behind_none x [] one all = refl
apart_behind_none x (y ∷ ys) one all =
    where_none (has_path_of x y) y (repeats_behind y ys) one.0 (apart_behind_none y ys all.0 all.1)

in_order : (ys : List LiveFile) → Rises path_before order ys → repeats_in ys ≡ [] → AreApart ys
unfolding IsDistinct
in_order [] rises h = tt
in_order (x ∷ ys) rises h = behind_apart x ys rises h

in_order_none : (ys : List LiveFile) → AreApart ys → repeats_in ys ≡ []
unfolding IsDistinct
in_order_none [] all = refl
in_order_none (x ∷ ys) all = apart_behind_none x ys all.0 all.1

pub none_repeats : (files : List LiveFile) → repeats files ≡ [] → AreApart files
none_repeats files h = from_sorted files (in_order (sorted path_before files) (sorted_rises path_before order files) h)

pub apart_repeats : (files : List LiveFile) → AreApart files → repeats files ≡ []
apart_repeats files all = in_order_none (sorted path_before files) (to_sorted files all)
