-- The tests of cells, of tuples and of summaries say whether they are one, and the order of cells and tuples is total.
use Rattle.std.proofs.Common.{◌≡◌, ℕ, ◌<◌, ◌<ℤ◌, ap, rules, true, false, List, [], ◌∷◌, ℤ, pos, refl, sym, subst}
use Rattle.std.proofs.Common.{◌∙◌, ◌&&◌, Bool, Option, None, Some}
use Rattle.std.proofs.Math.Bool.{beq}
use Rattle.std.specs.Option.{option_eq}
use Rattle.std.specs.Str.{bytes_eq}
use Rattle.std.specs.Bool.{Decides}
use Rattle.std.specs.declared.cmp.Ordering.{Ordering}
use Rattle.std.specs.declared.cmp.Ordering.TheVariants.{Less, Equal, Greater}
use Rattle.std.specs.Ordering.{nat_cmp, int_cmp, MatchOrdering, ordering_then, ordering_reverse, on, then_cmp}
use Rattle.std.specs.Ordering.{eq_by_cmp, is_eq}
use Rattle.std.specs.Cmp.{booleans_Decides, IsEquivalence, IsTotalOrder, decided, Equal-is}
use Rattle.std.specs.Bool.{one_answer}
use Rattle.std.proofs.lemmas.Cmp.{int_ranked, ranked, then_total, on_total, lists_total, nat_cmp_total, int_cmp_total}
use Rattle.std.proofs.lemmas.Cmp.{nat_list_cmp_total, tied_itself}
use Rattle.std.specs.Cmp.Lexicographic.{pointwise, slice_cmp}
use Rattle.std.proofs.lemmas.Slice.Eq.{slice_eq-Decides, bytes_eq-Decides}
use Rattle.std.proofs.lemmas.Bool.Decides.{Decides-int_eq, Decides-like}
use Rattle.ice_value.specs.declared.cell.Cell.{Cell}
use Rattle.ice_value.specs.declared.cell.Cell.TheVariants as cells
use Rattle.ice_value.specs.Cells.{same_cell, same_tuple, kind_of, cell_cmp, tuple_cmp}
use Rattle.ice_value.specs.Summaries.{FieldSummary, same_summary}

-- the test of cells says whether they are one
pub cell_decides : (a b : Cell) → Decides (same_cell a b) (a ≡ b)
cell_decides cells.Null cells.Null = search rules
cell_decides cells.Null (cells.Bool b) = (λ h. cc, λ h. cc)
cell_decides cells.Null (cells.Whole b) = (λ h. cc, λ h. cc)
cell_decides cells.Null (cells.Text b) = (λ h. cc, λ h. cc)
cell_decides cells.Null (cells.Bytes b) = (λ h. cc, λ h. cc)
cell_decides (cells.Bool a) cells.Null = (λ h. cc, λ h. cc)
cell_decides (cells.Bool a) (cells.Bool b) = Decides-like _ (λ h. ap cells.Bool h) (λ h. cc) (booleans_Decides a b)
cell_decides (cells.Bool a) (cells.Whole b) = (λ h. cc, λ h. cc)
cell_decides (cells.Bool a) (cells.Text b) = (λ h. cc, λ h. cc)
cell_decides (cells.Bool a) (cells.Bytes b) = (λ h. cc, λ h. cc)
cell_decides (cells.Whole a) cells.Null = (λ h. cc, λ h. cc)
cell_decides (cells.Whole a) (cells.Bool b) = (λ h. cc, λ h. cc)
cell_decides (cells.Whole a) (cells.Whole b) = Decides-like _ (λ h. ap cells.Whole h) (λ h. cc) (Decides-int_eq a b)
cell_decides (cells.Whole a) (cells.Text b) = (λ h. cc, λ h. cc)
cell_decides (cells.Whole a) (cells.Bytes b) = (λ h. cc, λ h. cc)
cell_decides (cells.Text a) cells.Null = (λ h. cc, λ h. cc)
cell_decides (cells.Text a) (cells.Bool b) = (λ h. cc, λ h. cc)
cell_decides (cells.Text a) (cells.Whole b) = (λ h. cc, λ h. cc)
cell_decides (cells.Text a) (cells.Text b) = Decides-like _ (λ h. ap cells.Text h) (λ h. cc) (bytes_eq-Decides a b)
cell_decides (cells.Text a) (cells.Bytes b) = (λ h. cc, λ h. cc)
cell_decides (cells.Bytes a) cells.Null = (λ h. cc, λ h. cc)
cell_decides (cells.Bytes a) (cells.Bool b) = (λ h. cc, λ h. cc)
cell_decides (cells.Bytes a) (cells.Whole b) = (λ h. cc, λ h. cc)
cell_decides (cells.Bytes a) (cells.Text b) = (λ h. cc, λ h. cc)
cell_decides (cells.Bytes a) (cells.Bytes b) = Decides-like _ (λ h. ap cells.Bytes h) (λ h. cc) (bytes_eq-Decides a b)

pub same_cell_equiv : IsEquivalence same_cell
same_cell_equiv = decided same_cell cell_decides

pub tuple_decides : (a b : List Cell) → Decides (same_tuple a b) (a ≡ b)
tuple_decides a b = slice_eq-Decides cell_decides a b (pointwise same_cell a b) refl

-- a cell's number, and its bytes
abbrev number_of : Cell → ℤ
number_of (cells.Bool true) = pos 1
number_of (cells.Whole a) = a
number_of _ = pos 0

abbrev bytes_of : Cell → List ℕ
bytes_of (cells.Text a) = a
bytes_of (cells.Bytes a) = a
bytes_of _ = []

-- the order of cells by these parts
abbrev by_parts : Cell → Cell → Ordering
by_parts = then_cmp (on kind_of nat_cmp) (then_cmp (on number_of int_cmp) (on bytes_of (slice_cmp nat_cmp)))

then_end : (o : Ordering) → o ≡ ordering_then o Equal
then_end Less = refl
then_end Equal = refl
then_end Greater = refl

cell_cmp-by_parts : (a b : Cell) → cell_cmp a b ≡ by_parts a b
cell_cmp-by_parts (cells.Bool true) (cells.Bool true) = refl
cell_cmp-by_parts (cells.Bool true) (cells.Bool false) = refl
cell_cmp-by_parts (cells.Bool false) (cells.Bool true) = refl
cell_cmp-by_parts (cells.Bool false) (cells.Bool false) = refl
cell_cmp-by_parts (cells.Whole a) (cells.Whole b) = then_end _
cell_cmp-by_parts cells.Null cells.Null = refl
cell_cmp-by_parts (cells.Text a) (cells.Text b) = refl
cell_cmp-by_parts (cells.Bytes a) (cells.Bytes b) = refl
cell_cmp-by_parts _ _ = refl

by_parts_total : IsTotalOrder by_parts
by_parts_total = then_total (on_total kind_of nat_cmp_total)
    (then_total (on_total number_of int_cmp_total) (on_total bytes_of nat_list_cmp_total))

pub cell_cmp_total : IsTotalOrder cell_cmp
cell_cmp_total = record {
  antisymm = λ a b. cell_cmp-by_parts a b ∙ by_parts_total.antisymm a b
      ∙ ap ordering_reverse (sym (cell_cmp-by_parts b a));
  trans = λ a b c h k. cell_cmp-by_parts a c
      ∙ by_parts_total.trans a b c (sym (cell_cmp-by_parts a b) ∙ h) (sym (cell_cmp-by_parts b c) ∙ k);
  congr = λ a b c h. cell_cmp-by_parts a c ∙ by_parts_total.congr a b c (sym (cell_cmp-by_parts a b) ∙ h)
      ∙ sym (cell_cmp-by_parts b c);
}

pub tuple_cmp_total : IsTotalOrder tuple_cmp
tuple_cmp_total = lists_total cell_cmp_total

pub int_same : (a b : ℤ) → int_cmp a b ≡ Equal → a ≡ b
int_same a b h = same_from _ (int_ranked a b (int_cmp a b) refl) h where
  same_from : (o : Ordering) → MatchOrdering o (a <ℤ b) (a ≡ b) (b <ℤ a) → o ≡ Equal → a ≡ b
  same_from Equal m h = m
  same_from Less m h = cc
  same_from Greater m h = cc

nat_same : (a b : ℕ) → nat_cmp a b ≡ Equal → a ≡ b
nat_same a b h = same_from _ (ranked a b (nat_cmp a b) refl) h where
  same_from : (o : Ordering) → MatchOrdering o (a < b) (a ≡ b) (b < a) → o ≡ Equal → a ≡ b
  same_from Equal m h = m
  same_from Less m h = cc
  same_from Greater m h = cc

then_equal : (o q : Ordering) → ordering_then o q ≡ Equal → (o ≡ Equal) × (q ≡ Equal)
then_equal Equal q h = (refl, h)
then_equal Less q h = absurd cc
then_equal Greater q h = absurd cc

pub list_same : (a b : List ℕ) → slice_cmp nat_cmp a b ≡ Equal → a ≡ b
list_same [] [] h = refl
list_same [] (y ∷ b) h = absurd cc
list_same (x ∷ a) [] h = absurd cc
list_same (x ∷ a) (y ∷ b) h =
    let parts = then_equal (nat_cmp x y) (slice_cmp nat_cmp a b) h in
    let first = nat_same x y parts.0 in
    let rest = list_same a b parts.1 in
    cc

-- cells that compare equal are one
pub cell_cmp_same : (a b : Cell) → cell_cmp a b ≡ Equal → a ≡ b
cell_cmp_same cells.Null cells.Null h = refl
cell_cmp_same (cells.Bool true) (cells.Bool true) h = refl
cell_cmp_same (cells.Bool false) (cells.Bool false) h = refl
cell_cmp_same (cells.Whole a) (cells.Whole b) h = ap cells.Whole (int_same a b h)
cell_cmp_same (cells.Text a) (cells.Text b) h = ap cells.Text (list_same a b h)
cell_cmp_same (cells.Bytes a) (cells.Bytes b) h = ap cells.Bytes (list_same a b h)
cell_cmp_same _ _ h = absurd cc

pub cell_cmp_decides : (a b : Cell) → Decides (is_eq (cell_cmp a b)) (a ≡ b)
cell_cmp_decides a b = (
  λ h. cell_cmp_same a b ((Equal-is (cell_cmp a b)).0 h),
  λ e. let P : Cell
      → Type 0 = λ v. is_eq (cell_cmp a v) ≡ true in subst P e (ap is_eq (tied_itself cell_cmp_total a)),
)

pub same_cell-by_cmp : (a b : Cell) → same_cell a b ≡ eq_by_cmp cell_cmp a b
same_cell-by_cmp a b = one_answer (same_cell a b) (is_eq (cell_cmp a b)) (cell_decides a b) (cell_cmp_decides a b)

tuple_cmp_same : (a b : List Cell) → tuple_cmp a b ≡ Equal → a ≡ b
tuple_cmp_same [] [] h = refl
tuple_cmp_same [] (y ∷ b) h = absurd cc
tuple_cmp_same (x ∷ a) [] h = absurd cc
tuple_cmp_same (x ∷ a) (y ∷ b) h =
    let parts = then_equal (cell_cmp x y) (tuple_cmp a b) h in
    let first = cell_cmp_same x y parts.0 in
    let rest = tuple_cmp_same a b parts.1 in
    cc

-- tuples compare equal just where they are one
pub tuple_cmp_equal : (a b : List Cell) → (tuple_cmp a b ≡ Equal → a ≡ b) × (a ≡ b → tuple_cmp a b ≡ Equal)
tuple_cmp_equal a b = (
  tuple_cmp_same a b,
  λ e. let P : List Cell → Type 0 = λ v. tuple_cmp a v ≡ Equal in
      subst P e (tied_itself tuple_cmp_total a),
)

-- ---- summaries

truths_decide : (a b : Option Bool) → Decides (option_eq beq a b) (a ≡ b)
truths_decide None None = (λ h. refl, λ h. refl)
truths_decide None (Some y) = (λ h. absurd cc, λ h. absurd cc)
truths_decide (Some x) None = (λ h. absurd cc, λ h. absurd cc)
truths_decide (Some x) (Some y) = Decides-like _ (λ h. ap Some h) (λ h. cc) (booleans_Decides x y)

bounds_decide : (a b : Option (List ℕ)) → Decides (option_eq bytes_eq a b) (a ≡ b)
bounds_decide None None = (λ h. refl, λ h. refl)
bounds_decide None (Some y) = (λ h. absurd cc, λ h. absurd cc)
bounds_decide (Some x) None = (λ h. absurd cc, λ h. absurd cc)
bounds_decide (Some x) (Some y) = Decides-like _ (λ h. ap Some h) (λ h. cc) (bytes_eq-Decides x y)

both : (a b : Bool) → (a && b) ≡ true → (a ≡ true) × (b ≡ true)
both true b h = (refl, h)
both false b h = absurd cc

summary_made : Bool → Option Bool → Option (List ℕ) → Option (List ℕ) → FieldSummary
summary_made a b c d = record { contains_null = a; contains_nan = b; lower = c; upper = d }

summary_is : (a : FieldSummary) → a ≡ summary_made a.contains_null a.contains_nan a.lower a.upper
unfolding summary_made
summary_is a = refl

one_summary : (a b : FieldSummary) → same_summary a b ≡ true → a ≡ b
one_summary a b h =
    let p = both (beq a.contains_null b.contains_null) _ h in
    let q = both (option_eq beq a.contains_nan b.contains_nan) _ p.1 in
    let r = both (option_eq bytes_eq a.lower b.lower) _ q.1 in
    let one : a.contains_null ≡ b.contains_null = (booleans_Decides a.contains_null b.contains_null).0 p.0 in
    let two : a.contains_nan ≡ b.contains_nan = (truths_decide a.contains_nan b.contains_nan).0 q.0 in
    let three : a.lower ≡ b.lower = (bounds_decide a.lower b.lower).0 r.0 in
    let four : a.upper ≡ b.upper = (bounds_decide a.upper b.upper).0 r.1 in
    summary_is a ∙ rw (one, two, three, four) refl ∙ sym (summary_is b)

same_itself : (a : FieldSummary) → same_summary a a ≡ true
same_itself a = rw (
  (booleans_Decides a.contains_null a.contains_null).1 refl,
  (truths_decide a.contains_nan a.contains_nan).1 refl,
  (bounds_decide a.lower a.lower).1 refl,
) ((bounds_decide a.upper a.upper).1 refl)

-- the test of summaries says whether they are one
pub summary_decides : (a b : FieldSummary) → Decides (same_summary a b) (a ≡ b)
summary_decides a b = (
  one_summary a b,
  λ e. let P : FieldSummary → Type 0 = λ v. same_summary a v ≡ true in
      subst P e (same_itself a),
)

pub same_summary_equiv : IsEquivalence same_summary
same_summary_equiv = decided same_summary summary_decides
