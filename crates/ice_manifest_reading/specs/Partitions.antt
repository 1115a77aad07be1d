-- The partition values of a file, a cell for each field of its manifest's spec, in the spec's order. Apache Iceberg
-- table spec v2, "Manifests" (partition: field ids are those of the partition fields) and "Appendix A: Avro".
use Rattle.std.specs.Prelude.{ℕ, ℤ, pos, List, [], ◌∷◌, map, Option, Some, Result, Ok}
use Rattle.contract_words.specs.Outcome.{◌>>=◌}
use Rattle.avro_schema.specs.declared.schema.BytesKind.{BytesKind}
use Rattle.avro_schema.specs.declared.schema.BytesKind.TheVariants.{Plain, Decimal}
use Rattle.avro_schema.specs.Tree.{Tree, octets, fixed}
use Rattle.avro_file.specs.Value.{truth, small, whole, text, run, raw}
use Rattle.avro_file.specs.Picking.{Typed}
use Rattle.ice_value.specs.declared.cell.Cell.{Cell}
use Rattle.ice_value.specs.declared.cell.Cell.TheVariants.{Null, Bool as Flag, Whole, Text, Bytes}
use Rattle.ice_meta.specs.declared.spec.PartitionField.{PartitionField}
use Rattle.ice_manifest_fields.specs.declared.fault.FieldFault.{FieldFault}
use Rattle.ice_manifest_fields.specs.Decimals.{shortest}
use Rattle.ice_manifest_fields.specs.Fields.{at, there, record_at}

-- what the bytes of a type stand for
abbrev pub bytes_kind : Tree → BytesKind
bytes_kind (octets kind) = kind
bytes_kind (fixed size kind) = kind
bytes_kind t = Plain

-- the bytes of a decimal number are kept without redundant ones, so that one number has one cell
abbrev pub kept_bytes : BytesKind → List ℕ → List ℕ
kept_bytes Plain bs = bs
kept_bytes Decimal bs = shortest bs

-- the cell of a value; null where there is none
abbrev pub cell_of : Option Typed → Cell
cell_of (Some (t, truth b)) = Flag b
cell_of (Some (t, small z)) = Whole z
cell_of (Some (t, whole z)) = Whole z
cell_of (Some (t, text s)) = Text s
cell_of (Some (t, run bs)) = Bytes (kept_bytes (bytes_kind t) bs)
cell_of (Some (t, raw bs)) = Bytes (kept_bytes (bytes_kind t) bs)
cell_of x = Null

-- the cell of the partition field with this id
abbrev pub cell_at : ℤ → Typed → Cell
cell_at id x = cell_of (there (at id x))

-- the cells of a record of partition values
abbrev pub cells_of : List PartitionField → Typed → List Cell
cells_of ps x = map (λ (p : PartitionField). cell_at p.field_id x) ps

-- the partition values of a data file; the record is looked for only where the spec has a field
unfoldable pub tuple_at : List PartitionField → Typed → Result (List Cell) FieldFault
tuple_at [] x = Ok []
tuple_at (p ∷ ps) x = record_at (pos 102) x >>= λ y. Ok (cells_of (p ∷ ps) y)
