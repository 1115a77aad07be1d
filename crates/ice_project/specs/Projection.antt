-- The projection of a filter through a partition spec (Apache Iceberg table spec v2, "Scan Planning": a filter on rows
-- becomes one on partition values that every file with a matching row meets). Of each test there is a line for each
-- kind of transform; where no line stands, every partition value meets it.
use Rattle.std.specs.Prelude.{ℕ, ◌+◌, length, Bool, true, false, List, [], ◌∷◌, Option, None, Some, if◌then◌else◌, ℤ}
use Rattle.std.specs.Prelude.{pos, ◌+ℤ◌, ◌-ℤ◌}
use Rattle.std.specs.Option.{option_map, option_and_then}
use Rattle.std.specs.Ordering.{int_eq}
use Rattle.ice_value.specs.Bounds.{fits_int, fits_long}
use Rattle.ice_value.specs.declared.column_type.ColumnType.{ColumnType}
use Rattle.ice_value.specs.declared.column_type.ColumnType.TheVariants.{Int, Long, Date, Timestamp, Timestamptz, String}
use Rattle.ice_value.specs.declared.column_type.ColumnType.TheVariants.{Binary}
use Rattle.ice_value.specs.declared.cell.Cell.{Cell}
use Rattle.ice_value.specs.declared.cell.Cell.TheVariants as cells
use Rattle.ice_transform.specs.Cuts.{has_points}
use Rattle.ice_transform.specs.Values.{value_of, type_of}
use Rattle.ice_transform.specs.declared.transform.Transform.{Transform}
use Rattle.ice_transform.specs.declared.transform.Transform.TheVariants.{Identity, Bucket, Truncate, Year, Month, Day}
use Rattle.ice_transform.specs.declared.transform.Transform.TheVariants.{Hour, Void, Unknown}
use Rattle.ice_meta.specs.declared.spec.Spec.{Spec}
use Rattle.ice_filter.specs.Trees.{map_predicates}
use Rattle.ice_filter.specs.declared.parts.Part.{Part}
use Rattle.ice_filter.specs.declared.bound.BoundPredicate.{BoundPredicate}
use Rattle.ice_filter.specs.declared.bound.Test.{Test}
use Rattle.ice_filter.specs.declared.bound.Test.TheVariants.{Less, AtMost, More, AtLeast, Among, IsNull, IsPresent}
use Rattle.ice_filter.specs.declared.bound.Test.TheVariants.{StartsWith}
use Rattle.ice_project.specs.Fields.{fields_of}
use Rattle.ice_project.specs.declared.field.Field.{Field}
use Rattle.ice_project.specs.declared.part_filter.FieldTest.{FieldTest}
use Rattle.ice_project.specs.declared.part_filter.PartFilter.{PartFilter}

-- the number, where it fits the type of whole numbers, dates or times
abbrev pub fit : ColumnType → ℤ → Option ℤ
fit Int z = if fits_int z then Some z else None
fit Date z = if fits_int z then Some z else None
fit Long z = if fits_long z then Some z else None
fit Timestamp z = if fits_long z then Some z else None
fit Timestamptz z = if fits_long z then Some z else None
fit _ z = None

-- the value before and the value behind in the type
abbrev pub before : ColumnType → Cell → Option Cell
before t (cells.Whole z) = option_map cells.Whole (fit t (z -ℤ pos 1))
before t _ = None

abbrev pub behind : ColumnType → Cell → Option Cell
behind t (cells.Whole z) = option_map cells.Whole (fit t (z +ℤ pos 1))
behind t _ = None

-- the transform's values of all cells, where each has one
abbrev pub values : (Cell → Option Cell) → List Cell → Option (List Cell)
values f [] = Some []
values f (c ∷ cs) = option_and_then (λ p. option_map (λ ps. p ∷ ps) (values f cs)) (f c)

-- bucket
abbrev pub scattered : (Cell → Option Cell) → Test → Option Test
scattered f (Among vs) = option_map Among (values f vs)
scattered f IsNull = Some IsNull
scattered f IsPresent = Some IsPresent
scattered f _ = None

-- truncate of whole numbers, year, month, day and hour
abbrev pub stepped : (Cell → Option Cell) → ColumnType → Test → Option Test
stepped f t (Less v) = option_map AtMost (option_and_then f (before t v))
stepped f t (AtMost v) = option_map AtMost (f v)
stepped f t (More v) = option_map AtLeast (option_and_then f (behind t v))
stepped f t (AtLeast v) = option_map AtLeast (f v)
stepped f t (Among vs) = option_map Among (values f vs)
stepped f t IsNull = Some IsNull
stepped f t IsPresent = Some IsPresent
stepped f t _ = None

-- a text with at least w code points is cut, and a shorter one stays
abbrev pub cut_start : (Cell → Option Cell) → ℕ → List ℕ → Option Test
cut_start f w s = if has_points w s then option_map (λ p. Among (p ∷ [])) (f (cells.Text s)) else Some (StartsWith s)

-- truncate of texts and byte strings
abbrev pub cut : (Cell → Option Cell) → ℕ → Test → Option Test
cut f w (Less v) = option_map AtMost (f v)
cut f w (AtMost v) = option_map AtMost (f v)
cut f w (More v) = option_map AtLeast (f v)
cut f w (AtLeast v) = option_map AtLeast (f v)
cut f w (Among vs) = option_map Among (values f vs)
cut f w IsNull = Some IsNull
cut f w IsPresent = Some IsPresent
cut f w (StartsWith s) = cut_start f w s
cut f w _ = None

-- texts and byte strings of any length
abbrev pub is_cut : ColumnType → Bool
is_cut String = true
is_cut Binary = true
is_cut _ = false

-- the projection of a test through a transform over this source type; none is true
abbrev pub projected_test : Transform → ColumnType → Test → Option Test
projected_test Identity t test = Some test
projected_test (Bucket n) t test = scattered (value_of (Bucket n) t) test
projected_test (Truncate w) t test = if is_cut t then cut (value_of (Truncate w) t) w.number test
    else stepped (value_of (Truncate w) t) t test
projected_test Year t test = stepped (value_of Year t) t test
projected_test Month t test = stepped (value_of Month t) t test
projected_test Day t test = stepped (value_of Day t) t test
projected_test Hour t test = stepped (value_of Hour t) t test
projected_test Void t test = None
projected_test (Unknown text) t test = None

-- a test of the partition value at a position, of this type
abbrev pub test_at : ℕ → ColumnType → Test → FieldTest
test_at at r test = record { position = at; value_type = r; test = test }

-- the projection through a transform that may not take the type
abbrev pub typed_test : ℕ → Transform → ColumnType → Test → Option FieldTest
typed_test at tr t test = option_and_then (λ r. option_map (test_at at r) (projected_test tr t test)) (type_of tr t)

-- the projection through the field at that position; a field whose column has no type is as if unknown
abbrev pub field_test : ℕ → Field → Test → Option FieldTest
field_test at field test = option_and_then (λ t. typed_test at field.transform t test) field.source_type

-- the field's test, where the field is one of the predicate's column
abbrev pub predicate_test : ℕ → Field → BoundPredicate → Option FieldTest
predicate_test at field l = if int_eq field.source_id l.column then field_test at field l.test else None

abbrev pub with_test : Option FieldTest → List FieldTest → List FieldTest
with_test None tests = tests
with_test (Some t) tests = t ∷ tests

-- the projection of a predicate: all tests of the fields, of which the first stands at that position
abbrev pub predicate_tests : ℕ → List Field → BoundPredicate → List FieldTest
predicate_tests at [] l = []
predicate_tests at (f ∷ fs) l = with_test (predicate_test at f l) (predicate_tests (at + 1) fs l)

-- the projection of a filter: of each predicate its own; `and` and `or` stay
abbrev pub projection : List (Part BoundPredicate) → Spec → PartFilter
projection filter spec =
    record { fields = length spec.fields; parts = map_predicates (predicate_tests 0 (fields_of spec)) filter }
