-- What lower and upper bounds say of a test (Apache Iceberg table spec v2, "Scan Planning": a file or a manifest is
-- left out where its bounds show that no value meets the test).
use Rattle.std.specs.Prelude.{◌≡◌, ℕ, Bool, true, false, not, ◌&&◌, List, Option, None, Some, if◌then◌else◌, nat_eq}
use Rattle.std.specs.List.{list_any, starts_with}
use Rattle.std.specs.Option.{option_and_then}
use Rattle.std.specs.declared.cmp.Ordering.{Ordering}
use Rattle.std.specs.Ordering.{is_lt, is_le, is_gt, is_ge, is_some_and, nat_cmp}
use Rattle.std.specs.Cmp.Lexicographic.{slice_cmp}
use Rattle.ice_value.specs.Bounds.{cell_in}
use Rattle.ice_value.specs.Cells.{order, is_at_most}
use Rattle.ice_value.specs.declared.column_type.ColumnType.{ColumnType}
use Rattle.ice_value.specs.declared.column_type.ColumnType.TheVariants.{String, Uuid}
use Rattle.ice_value.specs.declared.cell.Cell.{Cell}
use Rattle.ice_value.specs.declared.cell.Cell.TheVariants as cells
use Rattle.ice_filter.specs.declared.bound.Test.{Test}
use Rattle.ice_filter.specs.declared.bound.Test.TheVariants.{Less, AtMost, More, AtLeast, Among, NotAmong, IsNull}
use Rattle.ice_filter.specs.declared.bound.Test.TheVariants.{IsPresent, StartsWith}

abbrev pub is_uuid : ColumnType → Bool
is_uuid Uuid = true
is_uuid _ = false

abbrev pub is_string : ColumnType → Bool
is_string String = true
is_string _ = false

-- a bound as it is read: the value of the type that its bytes hold; bounds of uuids aren't read
abbrev pub limit : ColumnType → Option (List ℕ) → Option Cell
limit t bytes = if is_uuid t then None else option_and_then (cell_in t) bytes

-- there is a bound, and it stands so to the literal
abbrev pub limit_is : (Ordering → Bool) → Option Cell → Cell → Bool
limit_is test b v = is_some_and test (option_and_then (λ x. order x v) b)

-- the text of a bound
abbrev pub text_of : Option Cell → Option (List ℕ)
text_of None = None
text_of (Some (cells.Text text)) = Some text
text_of (Some _) = None

abbrev pub text_is : (Ordering → Bool) → Option (List ℕ) → List ℕ → Bool
text_is test None s = false
text_is test (Some text) s = test (slice_cmp nat_cmp text s)

abbrev pub text_begins : Option (List ℕ) → List ℕ → Bool
text_begins None s = false
text_begins (Some text) s = starts_with nat_eq text s

-- the literal is neither below the lower bound nor above the upper one
abbrev pub is_within : Option Cell → Option Cell → Cell → Bool
is_within low high v = not (limit_is is_gt low v) && not (limit_is is_lt high v)

-- a text between the bounds may start with s
abbrev pub may_begin_within : Option (List ℕ) → Option (List ℕ) → List ℕ → Bool
may_begin_within low high s = not (text_is is_lt high s) && not (text_is is_gt low s && not (text_begins low s))

-- a value between the bounds may meet the test
abbrev pub in_bounds : Test → Option Cell → Option Cell → Bool
in_bounds (Less v) low high = not (limit_is is_ge low v)
in_bounds (AtMost v) low high = not (limit_is is_gt low v)
in_bounds (More v) low high = not (limit_is is_le high v)
in_bounds (AtLeast v) low high = not (limit_is is_lt high v)
in_bounds (Among vs) low high = list_any (is_within low high) vs
in_bounds (NotAmong vs) low high = true
in_bounds IsNull low high = true
in_bounds IsPresent low high = true
in_bounds (StartsWith s) low high = may_begin_within (text_of low) (text_of high) s

-- the value is of the kind of each bound, and between them
pub record LiesIn (low high : Option Cell) (c : Cell) : Type 0 where
  pub above : (b : Cell) → low ≡ Some b → is_at_most b c ≡ true
  pub below : (b : Cell) → high ≡ Some b → is_at_most c b ≡ true
