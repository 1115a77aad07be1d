-- The field paths to what is read of an entry. Apache Iceberg table spec v2, "Manifests" (manifest_entry and
-- data_file; the fields of the partition struct have the ids of the spec's partition fields).
use Rattle.std.specs.Prelude.{◌≡◌, ◌<◌, ℕ, ℤ, pos, List, [], ◌∷◌, ◌++◌, length, map}
use Rattle.avro_file_picked.specs.Placing.{nth_field_path}
use Rattle.ice_meta.specs.declared.spec.PartitionField.{PartitionField}
use Rattle.ice_manifest_layouts.specs.declared.entry_field.EntryField.{EntryField}
use Rattle.ice_manifest_layouts.specs.declared.entry_field.EntryField.TheVariants as entry
use Rattle.ice_manifest_layouts.specs.declared.entry_field.FileField.{FileField}
use Rattle.ice_manifest_layouts.specs.declared.entry_field.FileField.TheVariants as file

abbrev pub entry_id : EntryField → ℤ
entry_id entry.Status = pos 0
entry_id entry.SnapshotId = pos 1
entry_id entry.DataFile = pos 2
entry_id entry.SequenceNumber = pos 3
entry_id entry.FileSequenceNumber = pos 4

abbrev pub file_id : FileField → ℤ
file_id file.Content = pos 134
file_id file.Path = pos 100
file_id file.Partition = pos 102
file_id file.RecordCount = pos 103
file_id file.FileSize = pos 104
file_id file.ValueCounts = pos 109
file_id file.NullCounts = pos 110
file_id file.LowerBounds = pos 125
file_id file.UpperBounds = pos 128
file_id file.EqualityIds = pos 135
file_id file.ReferencedFile = pos 143
file_id file.Format = pos 101

-- the ids on the field path to a field of the entry, to a field of its file, and to a partition value
abbrev pub to_entry : EntryField → List ℤ
to_entry f = entry_id f ∷ []

abbrev pub to_file : FileField → List ℤ
to_file f = entry_id entry.DataFile ∷ file_id f ∷ []

abbrev pub to_cell : PartitionField → List ℤ
to_cell p = entry_id entry.DataFile ∷ file_id file.Partition ∷ p.field_id ∷ []

abbrev pub to_entries : List EntryField → List (List ℤ)
to_entries fs = map to_entry fs

abbrev pub to_files : List FileField → List (List ℤ)
to_files fs = map to_file fs

abbrev pub to_cells : List PartitionField → List (List ℤ)
to_cells ps = map to_cell ps

abbrev pub entry_fields : List EntryField
entry_fields = entry.Status ∷ entry.SnapshotId ∷ entry.SequenceNumber ∷ entry.FileSequenceNumber ∷ entry.DataFile ∷ []

abbrev pub file_fields : List FileField
file_fields = file.Content ∷ file.Path ∷ file.Partition ∷ file.RecordCount ∷ file.FileSize ∷ file.ValueCounts
    ∷ file.NullCounts ∷ file.LowerBounds ∷ file.UpperBounds ∷ file.EqualityIds ∷ file.ReferencedFile
    ∷ file.Format ∷ []

-- the fields of the pairs of a file's maps, which a guide keeps
abbrev pub pair_ids : List ℤ
pair_ids = pos 119 ∷ pos 120 ∷ pos 121 ∷ pos 122 ∷ pos 126 ∷ pos 127 ∷ pos 129 ∷ pos 130 ∷ []

-- all that is read of an entry where the spec has these partition fields
abbrev pub wanted_field_paths : List PartitionField → List (List ℤ)
wanted_field_paths ps = to_entries entry_fields ++ (to_files file_fields ++ pair_ids ∷ to_cells ps)

-- the field path stands at this place among all
abbrev pub IsNumberOf : List ℤ → ℕ → List PartitionField → Type 0
IsNumberOf field_path k ps = (k < length (wanted_field_paths ps))
    × (nth_field_path (wanted_field_paths ps) k ≡ field_path)
