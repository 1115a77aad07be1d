-- The partition values that a new file may have (Apache Iceberg table spec v2, "Partition Transforms": the values of a
-- field are of its transform's result type, those of void are null).
use Rattle.std.specs.Prelude.{Bool, true, false, ◌&&◌, ◌||◌, List, [], ◌∷◌, Option, None, Some, map, if◌then◌else◌}
use Rattle.ice_value.specs.declared.cell.Cell.{Cell}
use Rattle.ice_value.specs.declared.column_type.ColumnType.{ColumnType}
use Rattle.ice_value.specs.declared.column_type.ColumnType.TheVariants.{Int}
use Rattle.ice_value.specs.Bounds.{is_cell}
use Rattle.ice_filter.specs.Rows.{is_null}
use Rattle.ice_manifest.specs.Adding.{is_partition_type}
use Rattle.ice_meta.specs.declared.spec.PartitionField.{PartitionField}
use Rattle.ice_meta.specs.declared.spec.Spec.{Spec}
use Rattle.ice_meta.specs.Partitioning.{is_void}
use Rattle.ice_project.specs.Fields.{field_of}
use Rattle.ice_project.specs.Summaries.{type_of_values}
use Rattle.ice_catalog_versions.specs.declared.tuples.Allowed.{Allowed}
use Rattle.ice_catalog_versions.specs.declared.tuples.Allowed.TheVariants.{Null, Value, Nothing}

abbrev pub allowed_of_type : Option ColumnType → Allowed
allowed_of_type None = Nothing
allowed_of_type (Some t) = if is_partition_type t then Value t else Nothing

-- What the cells of a field may be: null alone for void, else null or a value of the result type. Where there is no
-- such type, or manifests can't have its values, there are no cells.
abbrev pub allowed_of : PartitionField → Allowed
allowed_of field = if is_void field then Null else allowed_of_type (type_of_values (field_of field))

abbrev pub allows : Allowed → Cell → Bool
allows Null cell = is_null cell
allows (Value t) cell = is_null cell || is_cell t cell
allows Nothing cell = false

-- as many cells as fields, each an allowed one
abbrev pub fit : List Allowed → List Cell → Bool
fit [] [] = true
fit (first ∷ others) (cell ∷ cells) = allows first cell && fit others cells
fit _ _ = false

abbrev pub fits_spec : Option Spec → List Cell → Bool
fits_spec None tuple = false
fits_spec (Some spec) tuple = fit (map allowed_of spec.fields) tuple

-- the type by which the values are written; nulls alone are written as those of an int
abbrev pub written_type : Allowed → ColumnType
written_type (Value t) = t
written_type _ = Int
