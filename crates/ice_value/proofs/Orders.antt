-- The order of cells.
use Rattle.std.proofs.Common.{◌≡◌, ◌<◌, true, false, Some, None, refl, sym, ap, ◌∙◌, arith, Option}
use Rattle.std.specs.Option.{option_map}
use Rattle.std.specs.declared.cmp.Ordering.{Ordering}
use Rattle.std.specs.declared.cmp.Ordering.TheVariants.{Less as Below, Equal, Greater}
use Rattle.std.specs.Ordering.{ordering_reverse, is_le, is_gt, is_some_and}
use Rattle.std.specs.Cmp.{IsTotalOrder}
use Rattle.std.proofs.lemmas.Cmp.{upto, tied_itself, nat_list_cmp_total, int_cmp_total}
use Rattle.ice_value.specs.Cells.{order, AreOfOneKind, cell_cmp, kind_of, is_at_most}
use Rattle.ice_value.specs.Equality.{int_same, list_same}
use Rattle.ice_value.specs.declared.cell.Cell.{Cell}
use Rattle.ice_value.specs.declared.cell.Cell.TheVariants.{Null, Bool as Flag, Whole, Text, Bytes}

pub itself : (a : Cell) → AreOfOneKind a a → order a a ≡ Some Equal
itself (Flag true) h = refl
itself (Flag false) h = refl
itself (Whole z) h = ap Some (tied_itself int_cmp_total z)
itself (Text bs) h = ap Some (tied_itself nat_list_cmp_total bs)
itself (Bytes bs) h = ap Some (tied_itself nat_list_cmp_total bs)
itself Null h = absurd h

some_is : {X : Type 0} (x y : X) → Some x ≡ Some y → x ≡ y
some_is x y h = cc

-- equal cells are one
pub no_other : (a b : Cell) → order a b ≡ Some Equal → a ≡ b
no_other (Flag true) (Flag true) h = refl
no_other (Flag false) (Flag false) h = refl
no_other (Flag true) (Flag false) h = absurd cc
no_other (Flag false) (Flag true) h = absurd cc
no_other (Whole a) (Whole b) h = ap Whole (int_same a b (some_is _ _ h))
no_other (Text a) (Text b) h = ap Text (list_same a b (some_is _ _ h))
no_other (Bytes a) (Bytes b) h = ap Bytes (list_same a b (some_is _ _ h))
no_other _ _ h = absurd cc

pub turned : (a b : Cell) → order b a ≡ option_map ordering_reverse (order a b)
turned (Flag true) (Flag true) = refl
turned (Flag false) (Flag false) = refl
turned (Flag true) (Flag false) = refl
turned (Flag false) (Flag true) = refl
turned (Whole a) (Whole b) = ap Some (int_cmp_total.antisymm b a)
turned (Text a) (Text b) = ap Some (nat_list_cmp_total.antisymm b a)
turned (Bytes a) (Bytes b) = ap Some (nat_list_cmp_total.antisymm b a)
turned Null Null = refl
turned _ _ = refl

pub less : (a b c : Cell) → order a b ≡ Some Below → order b c ≡ Some Below → order a c ≡ Some Below
less (Flag false) (Flag true) (Flag true) h k = refl
less (Flag a) (Flag true) (Flag false) h k = absurd cc
less (Flag true) (Flag true) (Flag c) h k = absurd cc
less (Flag true) (Flag false) (Flag c) h k = absurd cc
less (Flag false) (Flag false) (Flag c) h k = absurd cc
less (Whole a) (Whole b) (Whole c) h k = ap Some (int_cmp_total.trans a b c (some_is _ _ h) (some_is _ _ k))
less (Text a) (Text b) (Text c) h k = ap Some (nat_list_cmp_total.trans a b c (some_is _ _ h) (some_is _ _ k))
less (Bytes a) (Bytes b) (Bytes c) h k = ap Some (nat_list_cmp_total.trans a b c (some_is _ _ h) (some_is _ _ k))
less _ _ _ h k = absurd cc

-- cells of one kind keep their order
pub of_one_kind : (a b : Cell) → AreOfOneKind a b → order a b ≡ Some (cell_cmp a b)
of_one_kind (Flag a) (Flag b) h = refl
of_one_kind (Whole a) (Whole b) h = refl
of_one_kind (Text a) (Text b) h = refl
of_one_kind (Bytes a) (Bytes b) h = refl
of_one_kind _ _ h = absurd h

pub of_kinds : (a b : Cell) → kind_of a < kind_of b → cell_cmp a b ≡ Below
of_kinds Null Null h = absurd (omega arith)
of_kinds (Flag a) (Flag b) h = absurd (omega arith)
of_kinds (Whole a) (Whole b) h = absurd (omega arith)
of_kinds (Text a) (Text b) h = absurd (omega arith)
of_kinds (Bytes a) (Bytes b) h = absurd (omega arith)
of_kinds Null _ h = refl
of_kinds (Flag a) Null h = absurd (omega arith)
of_kinds (Flag a) _ h = refl
of_kinds (Whole a) (Text b) h = refl
of_kinds (Whole a) (Bytes b) h = refl
of_kinds (Text a) (Bytes b) h = refl
of_kinds _ _ h = absurd (omega arith)

at_most_itself : (o : Option Ordering) → o ≡ Some Equal → is_some_and is_le o ≡ true
at_most_itself o h = ap (is_some_and is_le) h

pub up_to_itself : (a : Cell) → AreOfOneKind a a → is_at_most a a ≡ true
up_to_itself a h = at_most_itself (order a a) (itself a h)

le_not_gt : (o : Ordering) → is_le o ≡ true → is_gt o ≡ false
le_not_gt Below h = refl
le_not_gt Equal h = refl
le_not_gt Greater h = absurd cc

not_gt_le : (o : Ordering) → is_gt o ≡ false → is_le o ≡ true
not_gt_le Below h = refl
not_gt_le Equal h = refl
not_gt_le Greater h = absurd cc

chained : {K : Type 0} {R : K → K → Ordering} → IsTotalOrder R → (x y z : K) → is_le (R x y) ≡ true
    → is_le (R y z) ≡ true → is_le (R x z) ≡ true
chained {K} {R} o x y z h k = not_gt_le (R x z) (upto o x y z (le_not_gt (R x y) h) (le_not_gt (R y z) k))

pub up_to_further : (a b c : Cell) → is_at_most a b ≡ true → is_at_most b c ≡ true → is_at_most a c ≡ true
up_to_further (Flag false) (Flag b) (Flag false) h k = refl
up_to_further (Flag false) (Flag b) (Flag true) h k = refl
up_to_further (Flag true) (Flag true) (Flag c) h k = k
up_to_further (Flag true) (Flag false) (Flag c) h k = absurd cc
up_to_further (Whole a) (Whole b) (Whole c) h k = chained int_cmp_total a b c h k
up_to_further (Text a) (Text b) (Text c) h k = chained nat_list_cmp_total a b c h k
up_to_further (Bytes a) (Bytes b) (Bytes c) h k = chained nat_list_cmp_total a b c h k
up_to_further _ _ _ h k = absurd cc

equal_both_ways : (o : Option Ordering) → is_some_and is_le o ≡ true
    → is_some_and is_le (option_map ordering_reverse o) ≡ true → o ≡ Some Equal
equal_both_ways (Some Below) h k = absurd cc
equal_both_ways (Some Equal) h k = refl
equal_both_ways (Some Greater) h k = absurd cc
equal_both_ways None h k = absurd cc

pub up_to_both : (a b : Cell) → is_at_most a b ≡ true → is_at_most b a ≡ true → a ≡ b
up_to_both a b h k = no_other a b (equal_both_ways (order a b) h (sym (ap (is_some_and is_le) (turned a b)) ∙ k))
