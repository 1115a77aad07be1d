-- The files of which the projection of a filter speaks.
use Rattle.std.specs.Prelude.{◌≡◌, false, List, [], ◌∷◌, Some}
use Rattle.std.specs.List.{list_any}
use Rattle.ice_value.specs.declared.column_type.ColumnType.{ColumnType}
use Rattle.ice_value.specs.declared.cell.Cell.{Cell}
use Rattle.ice_transform.specs.Definitions.{IsValueOf}
use Rattle.ice_transform.specs.Values.{type_of}
use Rattle.ice_meta.specs.declared.spec.Spec.{Spec}
use Rattle.ice_filter.specs.Rows.{Row, row_meets}
use Rattle.ice_filter.specs.declared.parts.Part.{Part}
use Rattle.ice_filter.specs.declared.bound.BoundPredicate.{BoundPredicate}
use Rattle.ice_project.specs.Fields.{fields_of}
use Rattle.ice_project.specs.Projection.{projection}
use Rattle.ice_project.specs.Tuples.{part_meets}
use Rattle.ice_project.specs.declared.field.Field.{Field}

-- Where the field's transform is known, and takes the type of the field's column, the cell is its value of the row's
-- cell of that column.
abbrev pub IsPartitionValue : Field → Cell → Row → Type 0
IsPartitionValue field p row =
    (t r : ColumnType) → field.source_type ≡ Some t → type_of field.transform t ≡ Some r
    → IsValueOf field.transform t (row field.source_id) p

-- each cell of the tuple is its field's value of the row
abbrev pub IsTupleOf : List Field → List Cell → Row → Type 0
IsTupleOf [] ps row = Unit {0}
IsTupleOf (f ∷ fs) [] row = Unit {0}
IsTupleOf (f ∷ fs) (p ∷ ps) row = IsPartitionValue f p row × IsTupleOf fs ps row

-- a file with this tuple is honest about its rows
abbrev pub IsHonest : List Field → List Cell → List Row → Type 0
IsHonest fields tuple [] = Unit {0}
IsHonest fields tuple (row ∷ rows) = IsTupleOf fields tuple row × IsHonest fields tuple rows

-- no row meets the filter
abbrev pub NoneMeets : List (Part BoundPredicate) → List Row → Type 0
NoneMeets filter rows = list_any (row_meets filter) rows ≡ false

-- where the tuple doesn't meet the projection, a file with it has no row that meets the filter
abbrev pub IsSound : List (Part BoundPredicate) → Spec → List Cell → Type 0
IsSound filter spec tuple =
    (rows : List Row) → part_meets (projection filter spec) tuple ≡ false → IsHonest (fields_of spec) tuple rows
    → NoneMeets filter rows
