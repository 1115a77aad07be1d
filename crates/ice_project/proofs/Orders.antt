-- Comparisons of cells, and the tests that they meet.
use Rattle.std.proofs.Common.{◌≡◌, ℤ, pos, ◌+ℤ◌, ◌-ℤ◌, ◌≤ℤ◌, ◌<ℤ◌, Bool, true, false, not, Option, None, Some, cond}
use Rattle.std.proofs.Common.{refl, arith}
use Rattle.std.specs.Option.{option_map}
use Rattle.std.specs.declared.cmp.Ordering.{Ordering}
use Rattle.std.specs.declared.cmp.Ordering.TheVariants.{Less as Below, Equal, Greater}
use Rattle.std.specs.Ordering.{is_lt, is_le, is_gt, is_ge, is_eq, is_some_and, int_cmp, ordering_reverse, MatchOrdering}
use Rattle.std.proofs.lemmas.Cmp.{int_ranked}
use Rattle.std.proofs.lemmas.Int.{ints}
use Rattle.ice_value.specs.Bounds.{fits_int, fits_long}
use Rattle.ice_value.specs.Cells.{order, is_at_most, AreOfOneKind}
use Rattle.ice_value.specs.declared.column_type.ColumnType.{ColumnType}
use Rattle.ice_value.specs.declared.column_type.ColumnType.TheVariants.{Int, Long, Date, Timestamp, Timestamptz}
use Rattle.ice_value.specs.declared.cell.Cell.{Cell}
use Rattle.ice_value.specs.declared.cell.Cell.TheVariants.{Null, Bool as Flag, Whole, Text, Bytes}
use Rattle.ice_filter.specs.declared.bound.Test.{Test}
use Rattle.ice_filter.specs.declared.bound.Test.TheVariants.{AtMost, AtLeast}
use Rattle.ice_filter.specs.Rows.{is_null}
use Rattle.ice_project.specs.Tuples.{passes, may, may_present}
use Rattle.ice_project.specs.Projection.{fit, before, behind}

-- what is known of the order of cells
pub record Ordered : Type 0 where
  pub itself : (a : Cell) → AreOfOneKind a a → order a a ≡ Some Equal
  pub no_other : (a b : Cell) → order a b ≡ Some Equal → a ≡ b
  pub turned : (a b : Cell) → order b a ≡ option_map ordering_reverse (order a b)
  pub less : (a b c : Cell) → order a b ≡ Some Below → order b c ≡ Some Below → order a c ≡ Some Below

pub one_kind : (c : Cell) → is_null c ≡ false → AreOfOneKind c c
one_kind Null n = absurd cc
one_kind (Flag b) n = tt
one_kind (Whole z) n = tt
one_kind (Text s) n = tt
one_kind (Bytes s) n = tt

pub present : (c : Cell) → not (is_null c) ≡ true → is_null c ≡ false
present Null h = absurd cc
present (Flag b) h = refl
present (Whole z) h = refl
present (Text s) h = refl
present (Bytes s) h = refl

-- a cell that is compared isn't null
pub compared : (g : Ordering → Bool) (c v : Cell) → is_some_and g (order c v) ≡ true → is_null c ≡ false
compared g Null v h = absurd cc
compared g (Flag b) v h = refl
compared g (Whole z) v h = refl
compared g (Text s) v h = refl
compared g (Bytes s) v h = refl

pub some_passes : (g : Ordering → Bool) (o : Option Ordering) → is_some_and g o ≡ true → passes g o ≡ true
some_passes g None h = absurd cc
some_passes g (Some o) h = h

pub if_present : (test : Test) (p : Cell) → is_null p ≡ false → may_present test p ≡ true → may test p ≡ true
if_present test p n h = rw n h

turned_le : (o : Option Ordering) → is_some_and is_le o ≡ true
    → is_some_and is_ge (option_map ordering_reverse o) ≡ true
turned_le None h = absurd cc
turned_le (Some Below) h = refl
turned_le (Some Equal) h = refl
turned_le (Some Greater) h = absurd cc

turned_ge : (o : Option Ordering) → is_some_and is_ge o ≡ true
    → is_some_and is_le (option_map ordering_reverse o) ≡ true
turned_ge None h = absurd cc
turned_ge (Some Below) h = absurd cc
turned_ge (Some Equal) h = refl
turned_ge (Some Greater) h = refl

pub at_most_turned : (ordered : Ordered) (a b : Cell) → is_at_most a b ≡ true → is_some_and is_ge (order b a) ≡ true
at_most_turned ordered a b h = let e = ordered.turned a b in rw e (turned_le (order a b) h)

pub at_least_turned : (ordered : Ordered) (a b : Cell) → is_some_and is_ge (order a b) ≡ true → is_at_most b a ≡ true
at_least_turned ordered a b h = let e = ordered.turned a b in rw e (turned_ge (order a b) h)

lt_le : (o : Option Ordering) → is_some_and is_lt o ≡ true → is_some_and is_le o ≡ true
lt_le None h = absurd cc
lt_le (Some Below) h = refl
lt_le (Some Equal) h = refl
lt_le (Some Greater) h = absurd cc

gt_ge : (o : Option Ordering) → is_some_and is_gt o ≡ true → is_some_and is_ge o ≡ true
gt_ge None h = absurd cc
gt_ge (Some Below) h = absurd cc
gt_ge (Some Equal) h = refl
gt_ge (Some Greater) h = refl

pub less_at_most : (c v : Cell) → is_some_and is_lt (order c v) ≡ true → is_at_most c v ≡ true
less_at_most c v h = lt_le (order c v) h

pub more_at_least : (c v : Cell) → is_some_and is_gt (order c v) ≡ true → is_some_and is_ge (order c v) ≡ true
more_at_least c v h = gt_ge (order c v) h

-- a value that is at most another meets the test
pub at_most_met : (p q : Cell) → is_at_most p q ≡ true → may (AtMost q) p ≡ true
at_most_met p q h = if_present (AtMost q) p (compared is_le p q h) (some_passes is_le (order p q) h)

pub at_least_met : (ordered : Ordered) (p q : Cell) → is_at_most q p ≡ true → may (AtLeast q) p ≡ true
at_least_met ordered p q h =
    let turn = at_most_turned ordered q p h in
    if_present (AtLeast q) p (compared is_ge p q turn) (some_passes is_ge (order p q) turn)

pub equal_is : (o : Option Ordering) → is_some_and is_eq o ≡ true → o ≡ Some Equal
equal_is None h = absurd cc
equal_is (Some Below) h = absurd cc
equal_is (Some Equal) h = refl
equal_is (Some Greater) h = absurd cc

pub itself_passes : (ordered : Ordered) (p : Cell) → is_null p ≡ false → passes is_eq (order p p) ≡ true
itself_passes ordered p n = let e = ordered.itself p (one_kind p n) in rw e refl

-- ---- whole numbers
pub lt_means : (a b : ℤ) → is_lt (int_cmp a b) ≡ true → a <ℤ b
lt_means a b h = go (int_cmp a b) (int_ranked a b (int_cmp a b) refl) h where
  go : (o : Ordering) → MatchOrdering o (a <ℤ b) (a ≡ b) (b <ℤ a) → is_lt o ≡ true → a <ℤ b
  go Below m h = m
  go Equal m h = absurd cc
  go Greater m h = absurd cc

pub gt_means : (a b : ℤ) → is_gt (int_cmp a b) ≡ true → b <ℤ a
gt_means a b h = go (int_cmp a b) (int_ranked a b (int_cmp a b) refl) h where
  go : (o : Ordering) → MatchOrdering o (a <ℤ b) (a ≡ b) (b <ℤ a) → is_gt o ≡ true → b <ℤ a
  go Below m h = absurd cc
  go Equal m h = absurd cc
  go Greater m h = m

pub int_at_most : (a b : ℤ) → a ≤ℤ b → is_at_most (Whole a) (Whole b) ≡ true
int_at_most a b le = go (int_cmp a b) (int_ranked a b (int_cmp a b) refl) where
  go : (o : Ordering) → MatchOrdering o (a <ℤ b) (a ≡ b) (b <ℤ a) → is_le o ≡ true
  go Below m = refl
  go Equal m = refl
  go Greater m = absurd (omega (arith, ints))

fit_if : (b : Bool) (z u : ℤ) → cond b (Some z) None ≡ Some u → u ≡ z
fit_if true z u h = cc
fit_if false z u h = absurd cc

pub fit_is : (t : ColumnType) (z u : ℤ) → fit t z ≡ Some u → u ≡ z
fit_is Int z u h = fit_if (fits_int z) z u h
fit_is Date z u h = fit_if (fits_int z) z u h
fit_is Long z u h = fit_if (fits_long z) z u h
fit_is Timestamp z u h = fit_if (fits_long z) z u h
fit_is Timestamptz z u h = fit_if (fits_long z) z u h
fit_is _ z u h = absurd cc

whole_is : (o : Option ℤ) (u : Cell) → option_map Whole o ≡ Some u → (w : ℤ) × (o ≡ Some w) × (Whole w ≡ u)
whole_is None u h = absurd cc
whole_is (Some w) u h = (w, refl, cc)

-- what is less than a value is at most the one before it
before_whole : (t : ColumnType) (c : Cell) (z : ℤ) (u : Cell) → before t (Whole z) ≡ Some u
    → is_some_and is_lt (order c (Whole z)) ≡ true → is_at_most c u ≡ true
before_whole t (Whole a) z u e h =
    let w = whole_is (fit t (z -ℤ pos 1)) u e in
    let is = fit_is t (z -ℤ pos 1) w.0 w.1 in
    let less = lt_means a z h in
    rw (← w.2) (int_at_most a w.0 (omega (arith, ints)))
before_whole t Null z u e h = absurd cc
before_whole t (Flag b) z u e h = absurd cc
before_whole t (Text s) z u e h = absurd cc
before_whole t (Bytes s) z u e h = absurd cc

pub before_bounds : (t : ColumnType) (c v u : Cell) → before t v ≡ Some u → is_some_and is_lt (order c v) ≡ true
    → is_at_most c u ≡ true
before_bounds t c (Whole z) u e h = before_whole t c z u e h
before_bounds t c Null u e h = absurd cc
before_bounds t c (Flag b) u e h = absurd cc
before_bounds t c (Text s) u e h = absurd cc
before_bounds t c (Bytes s) u e h = absurd cc

-- what is greater than a value is at least the one behind it
behind_whole : (t : ColumnType) (c : Cell) (z : ℤ) (u : Cell) → behind t (Whole z) ≡ Some u
    → is_some_and is_gt (order c (Whole z)) ≡ true → is_at_most u c ≡ true
behind_whole t (Whole a) z u e h =
    let w = whole_is (fit t (z +ℤ pos 1)) u e in
    let is = fit_is t (z +ℤ pos 1) w.0 w.1 in
    let more = gt_means a z h in
    rw (← w.2) (int_at_most w.0 a (omega (arith, ints)))
behind_whole t Null z u e h = absurd cc
behind_whole t (Flag b) z u e h = absurd cc
behind_whole t (Text s) z u e h = absurd cc
behind_whole t (Bytes s) z u e h = absurd cc

pub behind_bounds : (t : ColumnType) (c v u : Cell) → behind t v ≡ Some u → is_some_and is_gt (order c v) ≡ true
    → is_at_most u c ≡ true
behind_bounds t c (Whole z) u e h = behind_whole t c z u e h
behind_bounds t c Null u e h = absurd cc
behind_bounds t c (Flag b) u e h = absurd cc
behind_bounds t c (Text s) u e h = absurd cc
behind_bounds t c (Bytes s) u e h = absurd cc
