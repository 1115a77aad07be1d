-- What the summaries of a manifest say of a filter over partition values (Apache Iceberg table spec v2,
-- "Manifest Lists": a field summary for each field of the spec).
use Rattle.std.specs.Prelude.{◌≡◌, Bool, true, false, ◌==◌, List, [], ◌∷◌, length, Option, None, Some, if◌then◌else◌}
use Rattle.std.specs.List.{list_all, slice_get}
use Rattle.std.specs.Option.{option_and_then}
use Rattle.ice_value.specs.declared.column_type.ColumnType.{ColumnType}
use Rattle.ice_value.specs.declared.cell.Cell.{Cell}
use Rattle.ice_value.specs.declared.file_bounds.Summary.{Summary}
use Rattle.ice_transform.specs.Values.{type_of}
use Rattle.ice_filter.specs.Rows.{is_null}
use Rattle.ice_filter.specs.Trees.{tree_of, meaning}
use Rattle.ice_project.specs.Limits.{limit, in_bounds, LiesIn}
use Rattle.ice_project.specs.Tuples.{is_null_test}
use Rattle.ice_project.specs.declared.field.Field.{Field}
use Rattle.ice_project.specs.declared.part_filter.FieldTest.{FieldTest}
use Rattle.ice_project.specs.declared.part_filter.PartFilter.{PartFilter}

-- a value that the summary is of may meet the test
abbrev pub summary_allows : FieldTest → Summary → Bool
summary_allows t s =
    if is_null_test t.test then s.contains_null
    else in_bounds t.test (limit t.value_type s.lower) (limit t.value_type s.upper)

abbrev pub summary_at : FieldTest → Option Summary → Bool
summary_at t None = true
summary_at t (Some s) = summary_allows t s

-- the summary of the test's field allows it
abbrev pub field_test_allowed : List Summary → FieldTest → Bool
field_test_allowed summaries t = summary_at t (slice_get summaries t.position)

abbrev pub tests_allowed : List Summary → List FieldTest → Bool
tests_allowed summaries tests = list_all (field_test_allowed summaries) tests

-- The manifest may have a tuple that meets the filter. Summaries of another number of fields say nothing.
abbrev pub summaries_may : PartFilter → List Summary → Bool
summaries_may part summaries =
    if length summaries == part.fields then meaning (tests_allowed summaries) (tree_of part.parts) else true

-- the type of a field's values, by which its bounds are read; none where the field's column has no type, and where its
-- transform is unknown or doesn't take that type
abbrev pub type_of_values : Field → Option ColumnType
type_of_values field = option_and_then (type_of field.transform) field.source_type

-- the summary is one of this value of the field: it says that there are nulls where the value is null, and any other
-- value lies within the bounds
pub record IsSummaryOf (field : Field) (s : Summary) (p : Cell) : Type 0 where
  pub null : is_null p ≡ true → s.contains_null ≡ true
  pub present : is_null p ≡ false → (r : ColumnType) → type_of_values field ≡ Some r
      → LiesIn (limit r s.lower) (limit r s.upper) p

-- each field has a summary and a value, and the summary is one of the value
abbrev pub AreSummariesOf : List Field → List Summary → List Cell → Type 0
AreSummariesOf [] ss ps = Unit {0}
AreSummariesOf (f ∷ fs) (s ∷ ss) (p ∷ ps) = IsSummaryOf f s p × AreSummariesOf fs ss ps
AreSummariesOf (f ∷ fs) [] ps = ⊥
AreSummariesOf (f ∷ fs) (s ∷ ss) [] = ⊥

-- The summaries, where there is one for each field, are those of the tuple.
abbrev pub IsCovered : List Field → List Summary → List Cell → Type 0
IsCovered fields summaries tuple = length summaries ≡ length fields → AreSummariesOf fields summaries tuple
