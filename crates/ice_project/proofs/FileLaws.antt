-- A file whose counts and bounds are those of its rows isn't left out where a row meets.
use Rattle.std.proofs.Common.{◌≡◌, ℕ, suc, ◌+◌, ◌<◌, ◌≤◌, ℤ, pos, Bool, true, false, not, ◌&&◌, List, [], ◌∷◌, length}
use Rattle.std.proofs.Common.{map, Option, None, Some, cond, refl, ap, arith, sym, ◌∙◌, ◌⊎◌, inl, inr, subst, negsuc}
use Rattle.std.specs.List.{AllByRecursion}
use Rattle.std.specs.Ordering.{is_lt, is_le, is_gt, is_ge}
use Rattle.std.proofs.lemmas.Bool.{and_parts}
use Rattle.std.proofs.lemmas.Bool.Decides.{Decides-int_eq}
use Rattle.ice_value.specs.Columns.{count_of}
use Rattle.ice_value.specs.declared.cell.Cell.{Cell}
use Rattle.ice_value.specs.declared.cell.Cell.TheVariants.{Null, Bool as Flag, Whole, Text, Bytes}
use Rattle.ice_value.specs.declared.file_bounds.FileBounds.{FileBounds}
use Rattle.ice_filter.specs.declared.bound.Test.{Test}
use Rattle.ice_filter.specs.declared.bound.Test.TheVariants.{Less, AtMost, More, AtLeast, Among, NotAmong, IsNull}
use Rattle.ice_filter.specs.declared.bound.Test.TheVariants.{IsPresent, StartsWith}
use Rattle.ice_filter.specs.declared.bound.BoundPredicate.{BoundPredicate}
use Rattle.ice_filter.specs.declared.parts.Part.{Part}
use Rattle.ice_filter.specs.Rows.{Row, is_null, begins, holds, predicate_holds, row_meets}
use Rattle.ice_filter.specs.Trees.{Tree, truth, predicate, both, either, meaning, tree_of}
use Rattle.ice_project.specs.Files.{is_unlike_test, same_count, is_all_null, is_zero, lower_limit, upper_limit}
use Rattle.ice_project.specs.Files.{file_allows, file_may, null_count, IsColumn, HasPredicate, AreCounted}
use Rattle.ice_project.specs.Honesty.{NoneMeets}
use Rattle.ice_project.specs.Limits.{in_bounds, LiesIn}
use Rattle.ice_project.specs.Tuples.{may, is_null_test}
use Rattle.ice_project.proofs.Lines.{same_sound, not_null_any}
use Rattle.ice_project.proofs.Orders.{Ordered, compared, present}
use Rattle.ice_project.proofs.Sound.{and_both, and_mono, or_mono, refuted}
use Rattle.ice_project.proofs.Within.{shown, allowed}

-- ---- the cells of a column
abbrev IsIn : Cell → List Cell → Type 0
IsIn c [] = ⊥
IsIn c (x ∷ xs) = (c ≡ x) ⊎ IsIn c xs

bounded_at : (P : Cell → Type 0) (cells : List Cell) (c : Cell) → AllByRecursion P cells → IsIn c cells → P c
bounded_at P [] c all i = absurd i
bounded_at P (x ∷ xs) c all (inl e) = subst P (sym e) all.0
bounded_at P (x ∷ xs) c all (inr i) = bounded_at P xs c all.1 i

null_count_le : (cells : List Cell) → null_count cells ≤ length cells
null_count_le [] = omega arith
null_count_le (x ∷ xs) = add (is_null x) (null_count xs) (length xs) (null_count_le xs) where
  add : (b : Bool) (k n : ℕ) → k ≤ n → cond b 1 0 + k ≤ suc n
  add true k n h = omega arith
  add false k n h = omega arith

not_all_null : (cells : List Cell) (c : Cell) → IsIn c cells → is_null c ≡ false → null_count cells < length cells
not_all_null [] c i n = absurd i
not_all_null (x ∷ xs) c (inl e) n =
    let here : is_null x ≡ false = ap is_null (sym e) ∙ n in
    let rest = null_count_le xs in
    rw here (omega arith)
not_all_null (x ∷ xs) c (inr i) n = add (is_null x) (null_count xs) (length xs) (not_all_null xs c i n) where
  add : (b : Bool) (k n : ℕ) → k < n → cond b 1 0 + k < suc n
  add true k n h = omega arith
  add false k n h = omega arith

some_null : (cells : List Cell) (c : Cell) → IsIn c cells → is_null c ≡ true → 0 < null_count cells
some_null [] c i n = absurd i
some_null (x ∷ xs) c (inl e) n = let here : is_null x ≡ true = ap is_null (sym e) ∙ n in rw here (omega arith)
some_null (x ∷ xs) c (inr i) n = let h = some_null xs c i n in omega arith

number : ℤ → ℕ
number (pos n) = n
number (negsuc n) = 0

same_number : (a b : ℕ) → pos a ≡ pos b → a ≡ b
unfolding number
same_number a b e = ap number e

not_true : (b : Bool) → (b ≡ true → ⊥) → not b ≡ true
not_true true h = absurd (h refl)
not_true false h = refl

counts_differ : (v n : Option ℤ) (a b : ℕ) → ((k : ℤ) → v ≡ Some k → k ≡ pos a) → ((k : ℤ) → n ≡ Some k → k ≡ pos b)
    → b < a → same_count v n ≡ true → ⊥
counts_differ (Some x) (Some y) a b f g less h =
    let same : x ≡ y = (Decides-int_eq x y).0 h in
    let numbers = same_number a b (sym (f x refl) ∙ (same ∙ g y refl)) in
    absurd (omega arith)
counts_differ None n a b f g less h = absurd cc
counts_differ (Some x) None a b f g less h = absurd cc

zero_null : (n : Option ℤ) (b : ℕ) → ((k : ℤ) → n ≡ Some k → k ≡ pos b) → 0 < b → is_zero n ≡ true → ⊥
zero_null None b g less h = absurd cc
zero_null (Some y) b g less h =
    let same : y ≡ pos 0 = (Decides-int_eq y (pos 0)).0 h in
    let numbers = same_number b 0 (sym (g y refl) ∙ same) in
    absurd (omega arith)

-- ---- a predicate
begun : (c : Cell) (s : List ℕ) → begins c s ≡ true → is_null c ≡ false
begun (Text text) s h = refl
begun Null s h = absurd cc
begun (Flag b) s h = absurd cc
begun (Whole z) s h = absurd cc
begun (Bytes bs) s h = absurd cc

held_null : (test : Test) (c : Cell) → is_null_test test ≡ true → holds test c ≡ true → is_null c ≡ true
held_null IsNull c e h = h
held_null _ c e h = absurd cc

held_present : (test : Test) (c : Cell) → is_null_test test ≡ false → holds test c ≡ true → is_null c ≡ false
held_present (Less v) c e h = compared is_lt c v h
held_present (AtMost v) c e h = compared is_le c v h
held_present (More v) c e h = compared is_gt c v h
held_present (AtLeast v) c e h = compared is_ge c v h
held_present (Among vs) c e h = not_null_any c vs h
held_present (NotAmong vs) c e h = present c (and_parts (not (is_null c)) _ h).0
held_present IsNull c e h = absurd cc
held_present IsPresent c e h = present c h
held_present (StartsWith s) c e h = begun c s h

file_predicate : (ordered : Ordered) (file : FileBounds) (l : BoundPredicate) (cells : List Cell) (c : Cell)
    → IsColumn file l.column_type l.column cells → IsIn c cells →
    holds l.test c ≡ true → file_allows file l ≡ true
file_predicate ordered file l cells c column i h = unlike (is_unlike_test l.test) where
  low : Option Cell
  low = lower_limit file l.column_type l.column

  high : Option Cell
  high = upper_limit file l.column_type l.column

  solid : is_null_test l.test ≡ false → (not (is_all_null file l.column) && in_bounds l.test low high) ≡ true
  solid k =
      let n = held_present l.test c k h in
      let lies = bounded_at (λ x. is_null x ≡ false → LiesIn low high x) cells c column.bounded i n in
      and_both _ _
      (not_true (is_all_null file l.column) (counts_differ _ _ (length cells) (null_count cells) column.counted
      column.nulls_counted (not_all_null cells c i n)))
      (allowed ordered l.test low high c lies (shown l.test c n (same_sound l.test c h)))

  null : (b : Bool) → is_null_test l.test ≡ b → cond b (not (is_zero (count_of l.column file.null_counts)))
      (not (is_all_null file l.column) && in_bounds l.test low high) ≡ true
  null true k = not_true _ (zero_null (count_of l.column file.null_counts) (null_count cells) column.nulls_counted
      (some_null cells c i (held_null l.test c k h)))
  null false k = solid k

  unlike : (b : Bool) → cond b true (cond (is_null_test l.test) (not (is_zero (count_of l.column file.null_counts)))
      (not (is_all_null file l.column) && in_bounds l.test low high)) ≡ true
  unlike true = refl
  unlike false = null (is_null_test l.test) refl

-- ---- a filter
mono_at : (met may : BoundPredicate → Bool) (t : Tree BoundPredicate)
    → ((l : BoundPredicate) → HasPredicate l t → met l ≡ true → may l ≡ true) → meaning met t ≡ true
    → meaning may t ≡ true
mono_at met may (truth b) each h = h
mono_at met may (predicate l) each h = each l refl h
mono_at met may (both s t) each h =
    and_mono (meaning met s) (meaning met t) _ _ (mono_at met may s (λ l i. each l (inl i)))
    (mono_at met may t (λ l i. each l (inr i))) h
mono_at met may (either s t) each h =
    or_mono (meaning met s) (meaning met t) _ _ (mono_at met may s (λ l i. each l (inl i)))
    (mono_at met may t (λ l i. each l (inr i))) h

abbrev IsRowIn : Row → List Row → Type 0
IsRowIn row [] = ⊥
IsRowIn row (x ∷ xs) = (row ≡ x) ⊎ IsRowIn row xs

in_column : (k : ℤ) (rows : List Row) (row : Row) → IsRowIn row rows → IsIn (row k) (map (λ (r : Row). r k) rows)
in_column k [] row i = absurd i
in_column k (x ∷ xs) row (inl e) = inl (ap (λ (r : Row). r k) e)
in_column k (x ∷ xs) row (inr i) = inr (in_column k xs row i)

none_meets : (filter : List (Part BoundPredicate)) (rows : List Row)
    → ((row : Row) → IsRowIn row rows → row_meets filter row ≡ false) → NoneMeets filter rows
none_meets filter [] f = refl
none_meets filter (x ∷ xs) f = let e = f x (inl refl) in rw e (none_meets filter xs (λ row i. f row (inr i)))

pub file_sound : (ordered : Ordered) (filter : List (Part BoundPredicate)) (file : FileBounds) (rows : List Row)
    → file_may filter file ≡ false → AreCounted file filter rows → NoneMeets filter rows
file_sound ordered filter file rows refusal counted =
    none_meets filter rows (λ row i. refuted (row_meets filter row) (file_may filter file)
    (mono_at (predicate_holds row) (file_allows file) (tree_of filter)
    (λ l has met. file_predicate ordered file l (map (λ (r : Row). r l.column) rows) (row l.column) (counted l has)
    (in_column l.column rows row i) met)) refusal)
