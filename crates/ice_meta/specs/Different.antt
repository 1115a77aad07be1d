-- Ids inside a schema and inside a partition spec.
use Rattle.std.specs.Prelude.{map}
use Rattle.std.specs.List.{IsDistinct}
use Rattle.std.specs.Ordering.{int_eq}
use Rattle.ice_meta.specs.declared.schema.Schema.{Schema}
use Rattle.ice_meta.specs.declared.spec.Spec.{Spec}
use Rattle.ice_meta.specs.Schemas.{column_id}
use Rattle.ice_meta.specs.Tables.{field_id}

-- no two columns of the schema have one id
abbrev pub HasDifferentColumns : Schema → Type 0
HasDifferentColumns schema = IsDistinct int_eq (map column_id schema.columns)

-- no two fields of the spec have one id
abbrev pub HasDifferentFields : Spec → Type 0
HasDifferentFields spec = IsDistinct int_eq (map field_id spec.fields)
