-- Which specs partition nothing (Apache Iceberg table spec v2, "Partition Transforms": the result of void is always
-- null).
use Rattle.std.specs.Prelude.{ℤ, Bool, [], codes}
use Rattle.std.specs.List.{list_all}
use Rattle.std.specs.Str.{bytes_eq}
use Rattle.ice_meta.specs.declared.spec.PartitionField.{PartitionField}
use Rattle.ice_meta.specs.declared.spec.Spec.{Spec}

-- the spec of an id that has no field
abbrev pub without_fields : ℤ → Spec
without_fields id = record { id = id; fields = [] }

-- the field's transform is void
abbrev pub is_void : PartitionField → Bool
is_void field = bytes_eq field.transform (codes "void")

-- A spec is unpartitioned when it has no field, or only void ones.
abbrev pub is_unpartitioned : Spec → Bool
is_unpartitioned spec = list_all is_void spec.fields
