-- The types of partition values (Apache Iceberg table spec v2, "Partition Transforms").
use Rattle.std.specs.Prelude.{ℤ, List, [], ◌∷◌, Option, Some, None, map, if◌then◌else◌, option_and_then}
use Rattle.std.specs.Ordering.{int_eq}
use Rattle.ice_value.specs.declared.column_type.ColumnType.{ColumnType}
use Rattle.ice_value.specs.declared.column_type.ColumnType.TheVariants.{Date}
use Rattle.ice_transform.specs.declared.transform.Transform.{Transform}
use Rattle.ice_transform.specs.declared.transform.Transform.TheVariants.{Day}
use Rattle.ice_transform.specs.Values.{type_of, has_days}
use Rattle.ice_meta.specs.declared.spec.PartitionField.{PartitionField}
use Rattle.ice_meta.specs.declared.spec.Spec.{Spec}
use Rattle.ice_project.specs.Fields.{transform_named}
use Rattle.icescan_json.specs.declared.types.SpecTypes.{SpecTypes}

-- The type of a transform's values over a source type. Days are dates; years, months, hours and buckets are ints. None
-- where the transform is unknown, or doesn't take the source type.
abbrev pub value_type : Transform → ColumnType → Option ColumnType
value_type Day t = if has_days t then Some Date else None
value_type f t = type_of f t

-- none either where the field's column has no type
abbrev pub field_type : PartitionField → Option ColumnType
field_type field = option_and_then (value_type (transform_named field.transform)) field.source_type

-- what is known of a spec: its id, and the types of its partition values
abbrev pub spec_types : Spec → SpecTypes
spec_types spec = record { id = spec.id; types = map field_type spec.fields }

-- the types of the values of the spec of this id, the first one; none where no spec has the id
abbrev pub types_of : List SpecTypes → ℤ → List (Option ColumnType)
types_of [] id = []
types_of (s ∷ rest) id = if int_eq s.id id then s.types else types_of rest id
