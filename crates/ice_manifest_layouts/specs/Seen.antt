-- What an object and its file are, in which fields were found.
use Rattle.std.specs.Prelude.{◌≡◌, ℕ, pos, List, Option, Some, None, Result, Ok, Err}
use Rattle.avro_schema.specs.Tree.{Tree, null, structure}
use Rattle.avro_schema.specs.View.{tree}
use Rattle.avro_file_parts.specs.declared.refusal.Refusal.{Refusal}
use Rattle.avro_file.specs.Value.{Value, nothing, fields, Values}
use Rattle.avro_file.specs.Blocks.{object_at}
use Rattle.avro_file.specs.Files.{Shows}
use Rattle.avro_file.specs.Picking.{Typed, pick}
use Rattle.avro_file_picked.specs.Finding.{field_paths_of}
use Rattle.avro_file_picked.specs.Placing.{ArePlaced}
use Rattle.avro_file_picked.specs.declared.guide.GuidedObject.{GuidedObject}
use Rattle.avro_file_picked.specs.Guides.{IsGuided}
use Rattle.ice_manifest_fields.specs.Fields.{at, there, record_of}
use Rattle.ice_manifest_fields.specs.Seen.{fields_seen}
use Rattle.ice_manifest_layouts.specs.declared.entry.FoundEntry.{FoundEntry}
use Rattle.ice_manifest_layouts.specs.declared.file.FoundFile.{FoundFile}
use Rattle.ice_manifest_layouts.specs.declared.entry_field.FileField.{FileField}
use Rattle.ice_manifest_layouts.specs.FieldPaths.{file_id, to_file, wanted_field_paths}

-- what was read; null where nothing could be
abbrev pub value_read : Result (Value × List ℕ) Refusal → Value
value_read (Ok x) = x.0
value_read (Err e) = nothing

-- the record; null where there is none
abbrev pub record_met : Option Typed → Typed
record_met (Some x) = x
record_met None = (null, nothing)

-- the object that the entry is read of, with its type
unfoldable pub entry_seen : FoundEntry → Typed
entry_seen e = (tree e.object.schema.now, value_read (object_at (tree e.object.schema.now) e.object.bytes.now))

-- an object stands there, and its values were placed along all field paths that are wanted
abbrev pub IsPlaced : FoundEntry → Type 0
IsPlaced e = (field_paths_of e.layout.now ≡ wanted_field_paths e.partition.now)
    × ArePlaced e.layout.now e.object e.places.now
    × ((v : Value) × Shows e.object v)

-- the record of the entry's file
abbrev pub file_of : FoundEntry → Option Typed
file_of e = record_of (there (at (pos 2) (entry_seen e)))

unfoldable pub file_seen : FoundFile → Typed
file_seen f = record_met (file_of f.entry.now)

-- the entry has a file, whose type has these fields
abbrev pub IsFile : FoundFile → Type 0
IsFile f = IsPlaced f.entry.now
    × ((vs : Values) × (file_of f.entry.now ≡ Some (structure (fields_seen f.fields.now), fields vs)))

-- the record of the partition values
abbrev pub tuple_of : FoundFile → Option Typed
tuple_of f = record_of (there (at (pos 102) (file_seen f)))

unfoldable pub tuple_seen : FoundFile → Typed
tuple_seen f = record_met (tuple_of f)

abbrev pub HasTuple : FoundFile → Type 0
HasTuple f = (y : Typed) × (tuple_of f ≡ Some y)

-- The file's entry stands there, and the guide is of its type and keeps all that is wanted of it. Each field of the
-- file is what the field path leads to from the entry.
abbrev pub IsGuidedFile : FoundFile → GuidedObject → Type 0
IsGuidedFile f guided = (t : Tree) × (v : Value) × IsGuided (wanted_field_paths f.entry.now.partition.now) t v guided
    × ((field : FileField) → pick (to_file field) (t, v) ≡ at (file_id field) (file_seen f))
