-- The fields that are read of a manifest list's rows, and the objects in which they were found. Apache Iceberg table
-- spec v2, "Manifest Lists".
use Rattle.std.specs.Prelude.{◌≡◌, ◌<◌, ℕ, ℤ, pos, List, [], ◌∷◌, ◌++◌, length, map, Result, Ok, Err}
use Rattle.avro_schema.specs.View.{tree}
use Rattle.avro_file_parts.specs.declared.refusal.Refusal.{Refusal}
use Rattle.avro_file.specs.Value.{Value, nothing}
use Rattle.avro_file.specs.Blocks.{object_at}
use Rattle.avro_file.specs.Files.{Shows}
use Rattle.avro_file.specs.Picking.{Typed}
use Rattle.avro_file_picked.specs.Finding.{field_paths_of}
use Rattle.avro_file_picked.specs.Placing.{ArePlaced, nth_field_path}
use Rattle.ice_manifest_layouts.specs.declared.row_field.RowField.{RowField}
use Rattle.ice_manifest_layouts.specs.declared.row_field.RowField.TheVariants as row
use Rattle.ice_manifest_layouts.specs.declared.row.FoundRow.{FoundRow}

abbrev pub row_id : RowField → ℤ
row_id row.Path = pos 500
row_id row.Length = pos 501
row_id row.SpecId = pos 502
row_id row.AddedSnapshotId = pos 503
row_id row.AddedFiles = pos 504
row_id row.ExistingFiles = pos 505
row_id row.DeletedFiles = pos 506
row_id row.Partitions = pos 507
row_id row.AddedRows = pos 512
row_id row.ExistingRows = pos 513
row_id row.DeletedRows = pos 514
row_id row.SequenceNumber = pos 515
row_id row.MinSequenceNumber = pos 516
row_id row.Content = pos 517

-- the field path to a field of the row
abbrev pub to_field : RowField → List ℤ
to_field f = row_id f ∷ []

abbrev pub to_fields : List RowField → List (List ℤ)
to_fields fs = map to_field fs

-- all that is read of a row
abbrev pub row_fields : List RowField
row_fields = row.Path ∷ row.Length ∷ row.SpecId ∷ row.AddedSnapshotId ∷ row.AddedFiles ∷ row.ExistingFiles
    ∷ row.DeletedFiles ∷ row.Partitions ∷ row.AddedRows ∷ row.ExistingRows ∷ row.DeletedRows ∷ row.SequenceNumber
    ∷ row.MinSequenceNumber ∷ row.Content ∷ []

-- the fields of the summaries of a row's partition fields, which a guide keeps
abbrev pub summary_ids : List ℤ
summary_ids = pos 509 ∷ pos 518 ∷ pos 510 ∷ pos 511 ∷ []

abbrev pub row_field_paths : List (List ℤ)
row_field_paths = to_fields row_fields ++ summary_ids ∷ []

-- the field path to the field stands at this place among all
abbrev pub IsNumberOf : RowField → ℕ → Type 0
IsNumberOf f k = (k < length row_field_paths) × (nth_field_path row_field_paths k ≡ to_field f)

-- what was read; null where nothing could be
abbrev pub value_read : Result (Value × List ℕ) Refusal → Value
value_read (Ok x) = x.0
value_read (Err e) = nothing

-- the object that the row is read of, with its type
unfoldable pub row_seen : FoundRow → Typed
row_seen r = (tree r.object.schema.now, value_read (object_at (tree r.object.schema.now) r.object.bytes.now))

-- an object stands there, and its values were placed along all field paths that are wanted
abbrev pub IsRow : FoundRow → Type 0
IsRow r = (field_paths_of r.layout.now ≡ row_field_paths) × ArePlaced r.layout.now r.object r.places.now
    × ((v : Value) × Shows r.object v)
