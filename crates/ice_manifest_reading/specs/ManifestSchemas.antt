-- Which fields the schema of a manifest must have under its spec, of which types, and the first that is missing or does
-- not fit. Apache Iceberg table spec v2, "Manifests"; the order is this program's own.
use Rattle.std.specs.Prelude.{pos, List, [], ◌∷◌, Option, Some, None, Result, Ok}
use Rattle.contract_words.specs.Outcome.{◌>>=◌}
use Rattle.avro_schema.specs.Tree.{Tree, structure, Fields}
use Rattle.ice_meta.specs.declared.spec.PartitionField.{PartitionField}
use Rattle.ice_meta.specs.declared.spec.Spec.{Spec}
use Rattle.ice_manifest_fields.specs.declared.fault.FieldFault.{FieldFault}
use Rattle.ice_manifest_fields.specs.Types.{is_whole, is_text, is_record}
use Rattle.ice_manifest_fields.specs.Schemas.{Fault, type_at, required, optional, inside, each_is_cell, column_fields}
use Rattle.ice_manifest_fields.specs.Schemas.{ids_fit}

-- ---- partition values

-- the field of each partition field's own id is there, and may be a partition value
unfoldable pub cells_fit : List PartitionField → Fields → Fault
cells_fit [] fs = Ok tt
cells_fit (p ∷ ps) fs = each_is_cell p.field_id (type_at p.field_id fs) >>= λ ok. cells_fit ps fs

abbrev pub is_tuple : List PartitionField → Tree → Fault
is_tuple ps (structure fs) = cells_fit ps fs
is_tuple ps t = Ok tt

-- the record of the partition values, which is looked for only where the spec has a field
unfoldable pub tuple_in : List PartitionField → Fields → Result (Option Tree) FieldFault
tuple_in [] fs = Ok None
tuple_in (p ∷ ps) fs = required is_record (pos 102) fs >>= λ t. Ok (Some t)

-- ---- entries

-- a data file, of a spec that has these partition fields; their types come last. One of version 1 has no field for its
-- content.
unfoldable pub file_fields : List PartitionField → Fields → Fault
file_fields ps fs = do
  content ← optional is_whole (pos 134) fs
  path ← required is_text (pos 100) fs
  tuple ← tuple_in ps fs
  count ← required is_whole (pos 103) fs
  size ← required is_whole (pos 104) fs
  columns ← column_fields fs
  ids ← ids_fit fs
  referenced ← optional is_text (pos 143) fs
  inside (is_tuple ps) tuple

abbrev pub is_file : List PartitionField → Tree → Fault
is_file ps (structure fs) = file_fields ps fs
is_file ps t = Ok tt

-- an entry of a manifest of this spec
unfoldable pub entry_fields : Spec → Fields → Fault
entry_fields spec fs = do
  status ← required is_whole (pos 0) fs
  snapshot ← optional is_whole (pos 1) fs
  sequence ← optional is_whole (pos 3) fs
  file_sequence ← optional is_whole (pos 4) fs
  file ← required is_record (pos 2) fs
  inside (is_file spec.fields) (Some file)
