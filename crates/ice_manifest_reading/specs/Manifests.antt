-- The live entries of a manifest, or its first fault. Apache Iceberg table spec v2, "Manifests", "Manifest Entry
-- Fields" and "Sequence Number Inheritance".
use Rattle.std.specs.Prelude.{ℕ, ℤ, pos, Bool, List, [], ◌∷◌, ◌++◌, map, filter, Option, Some, None, Result, Ok, Err}
use Rattle.std.specs.Prelude.{unwrap_or, ◌==◌, if◌then◌else◌}
use Rattle.std.specs.Option.{option_and_then}
use Rattle.std.specs.Ordering.{int_eq}
use Rattle.std.specs.List.{enumerate_from, filter_map}
use Rattle.contract_words.specs.Outcome.{◌>>=◌}
use Rattle.avro_schema.specs.Tree.{structure, Fields}
use Rattle.avro_file.specs.Value.{Value}
use Rattle.avro_file.specs.Ahead.{Ahead, running, refusing}
use Rattle.avro_file.specs.Files.{opened_at}
use Rattle.avro_file.specs.Picking.{Typed}
use Rattle.ice_value.specs.declared.file_bounds.FileBounds.{FileBounds}
use Rattle.ice_value.specs.declared.file_content.FileContent.{FileContent}
use Rattle.ice_value.specs.declared.file_content.FileContent.TheVariants as holds
use Rattle.ice_value.specs.declared.file_format.FileFormat.{FileFormat}
use Rattle.ice_value.specs.Formats.{format_named}
use Rattle.ice_meta.specs.declared.spec.PartitionField.{PartitionField}
use Rattle.ice_meta.specs.declared.spec.Spec.{Spec}
use Rattle.ice_meta.specs.Partitioning.{is_unpartitioned}
use Rattle.ice_manifest_fields.specs.declared.fault.FieldFault.{FieldFault}
use Rattle.ice_manifest_fields.specs.declared.fault.FieldFault.TheVariants as field
use Rattle.ice_manifest_fields.specs.declared.fault.ManifestFault.{ManifestFault}
use Rattle.ice_manifest_fields.specs.declared.fault.ManifestFault.TheVariants.{BadStatus, NoSequence}
use Rattle.ice_manifest_reading.specs.declared.row.Row.{Row}
use Rattle.ice_manifest_reading.specs.declared.row.ManifestContent.{ManifestContent}
use Rattle.ice_manifest_reading.specs.declared.row.ManifestContent.TheVariants.{Data, Deletes}
use Rattle.ice_manifest_reading.specs.declared.data_file.DataFile.{DataFile}
use Rattle.ice_manifest_reading.specs.declared.entry.Entry.{Entry}
use Rattle.ice_manifest_reading.specs.declared.entry.Live.{Live}
use Rattle.ice_manifest_reading.specs.declared.status.Status.{Status}
use Rattle.ice_manifest_reading.specs.declared.status.Status.TheVariants.{Existing, Added, Deleted}
use Rattle.ice_manifest_fields.specs.Each.{each}
use Rattle.ice_manifest_fields.specs.Naming.{in_manifest, contained, told, ended}
use Rattle.ice_manifest_reading.specs.Partitions.{tuple_at}
use Rattle.ice_manifest_fields.specs.Maps.{columns_of}
use Rattle.ice_manifest_fields.specs.Schemas.{fields_in}
use Rattle.ice_manifest_reading.specs.ManifestSchemas.{entry_fields}
use Rattle.ice_manifest_fields.specs.Fields.{long_at, int_at, int_or_zero, path_at, record_at, ints_at}
use Rattle.ice_manifest_fields.specs.Fields.{optional_long, optional_number, optional_text, optional_path}

-- ---- a data file

-- what a file holds: 0 data in a manifest of data; 1 position deletes and 2 equality deletes in one of deletes
abbrev pub content_of : ManifestContent → ℤ → Result FileContent FieldFault
content_of Data z = if int_eq z (pos 0) then Ok holds.Data else Err field.BadContent
content_of Deletes z =
    if int_eq z (pos 1) then Ok holds.PositionDeletes else (
    if int_eq z (pos 2) then Ok holds.EqualityDeletes else Err field.BadContent
    )

unfoldable pub content_at : ManifestContent → Typed → Result FileContent FieldFault
content_at of_row x = int_or_zero (pos 134) x >>= content_of of_row

-- the format that a file names (file_format), one of `avro`, `orc` and `parquet`; none where it names no such format
abbrev pub format_at : Typed → Option FileFormat
format_at x = option_and_then format_named (optional_text (pos 101) x)

-- the one data file that position deletes are about, where they name one; other files are about none, whatever they say
unfoldable pub referenced_at : FileContent → Typed → Result (Option (List ℕ)) FieldFault
referenced_at holds.PositionDeletes x = optional_path (pos 143) x
referenced_at content x = Ok None

-- the file that a record says, in a manifest of this content whose spec has these partition fields, and what it says of
-- the file's columns
unfoldable pub file_of : ManifestContent → List PartitionField → Typed → Result (DataFile × FileBounds) FieldFault
file_of of_row ps x = do
  content ← content_at of_row x
  path ← path_at (pos 100) x
  tuple ← tuple_at ps x
  count ← long_at (pos 103) x
  size ← long_at (pos 104) x
  columns ← columns_of x
  ids ← ints_at (pos 135) (pos 136) x
  referenced ← referenced_at content x
  Ok (
    record {
      content = content;
      format = format_at x;
      path = path;
      tuple = tuple;
      record_count = count;
      file_size = size;
      equality_ids = ids;
      referenced = referenced;
    },
    columns,
  )

-- ---- an entry

abbrev pub status_of : ℤ → Result Status ManifestFault
status_of z =
    if int_eq z (pos 0) then Ok Existing else (
    if int_eq z (pos 1) then Ok Added else (if int_eq z (pos 2) then Ok Deleted else Err BadStatus)
    )

unfoldable pub status_at : Typed → Result Status ManifestFault
status_at x = told in_manifest (int_at (pos 0) x) >>= status_of

-- an entry that names no snapshot is of the one that added its manifest
abbrev pub snapshot_at : Row → Typed → ℤ
snapshot_at row x = unwrap_or (optional_long (pos 1) x) row.added_snapshot_id

-- An explicit sequence number is kept. Without one an added entry has its manifest's; an existing one has none, but 0
-- where its manifest is of a time without sequence numbers.
abbrev pub inherited : ℕ → Status → Option ℕ → Result ℕ ManifestFault
inherited of_row status (Some own) = Ok own
inherited of_row Added None = Ok of_row
inherited of_row status None = if of_row == 0 then Ok 0 else Err NoSequence

unfoldable pub sequence_at : Row → Status → Typed → Result ℕ ManifestFault
sequence_at row status x = told in_manifest (optional_number (pos 3) x) >>= inherited row.sequence_number status

-- The same of the number of the file itself, but that an existing entry may have none: early writers left it out.
abbrev pub file_inherited : ℕ → Status → Option ℕ → Option ℕ
file_inherited of_row status (Some own) = Some own
file_inherited of_row Added None = Some of_row
file_inherited of_row status None = if of_row == 0 then Some 0 else None

unfoldable pub file_sequence_at : Row → Status → Typed → Result (Option ℕ) FieldFault
file_sequence_at row status x = optional_number (pos 4) x >>= λ own. Ok (file_inherited row.sequence_number status own)

-- the entry at a position, which exists or was added, of a row of this spec
unfoldable pub live_at : Row → Spec → ℕ → Status → Typed → Result Live ManifestFault
live_at row spec position status x = do
  sequence ← sequence_at row status x
  file_sequence ← told in_manifest (file_sequence_at row status x)
  inner ← told in_manifest (record_at (pos 2) x)
  said ← told in_manifest (file_of row.content spec.fields inner)
  Ok (record {
    entry = record {
      position = position;
      spec_id = row.spec_id;
      unpartitioned = is_unpartitioned spec;
      snapshot_id = snapshot_at row x;
      sequence_number = sequence;
      file_sequence_number = file_sequence;
      file = said.0;
    };
    bounds = said.1;
  })

-- of a deleted entry nothing but the status is looked at
abbrev pub unless_deleted : Status → Result Live ManifestFault → Result (Option Live) ManifestFault
unless_deleted Deleted live = Ok None
unless_deleted status live = live >>= λ l. Ok (Some l)

-- the entry that an object says, unless it was deleted
unfoldable pub entry_of : Row → Spec → ℕ → Typed → Result (Option Live) ManifestFault
entry_of row spec position x = do
  status ← status_at x
  unless_deleted status (live_at row spec position status x)

-- ---- all entries

-- the entry of an object, with its position among all, in a file of these fields
abbrev pub says_entry : Row → Spec → Fields → ℕ × Value → Result (Option Live) ManifestFault
says_entry row spec fs p = entry_of row spec p.0 (structure fs, p.1)

-- the live ones among entries and deleted ones
abbrev pub kept : List (Option Live) → List Live
kept read = filter_map (λ x. x) read

-- The live entries of the objects that a file holds, of which the first has a position; or the first fault, which the
-- file's end may be. Positions are counted over all objects.
unfoldable pub entries_ahead : Row → Spec → Fields → ℕ → Ahead → Result (List Live) ManifestFault
entries_ahead row spec fs position (running vs ending) = do
  read ← each (says_entry row spec fs) (enumerate_from position vs)
  ended in_manifest ending (kept read)
entries_ahead row spec fs position (refusing f) = Err (in_manifest.of_container f)

-- the live entries of a row's manifest, in the order of their positions, with the bounds of their files
unfoldable pub live_of : Row → Spec → List ℕ → Result (List Live) ManifestFault
live_of row spec bytes = do
  file ← contained in_manifest (opened_at bytes)
  fits ← told in_manifest (entry_fields spec (fields_in file.schema))
  entries_ahead row spec (fields_in file.schema) 0 file.ahead

-- the same without the bounds
abbrev pub entries : List Live → List Entry
entries found = map (λ l. l.entry) found

unfoldable pub entries_of : Row → Spec → List ℕ → Result (List Entry) ManifestFault
entries_of row spec bytes = do
  found ← live_of row spec bytes
  Ok (entries found)

-- ---- the entries that are kept

-- those of the live entries that are kept
abbrev pub entries_kept : (Live → Bool) → List Live → List Entry
entries_kept keeps found = entries (filter keeps found)

-- what is kept of the live entries; a fault is one also where it is that of an entry that would not be kept
abbrev pub kept_of : (Live → Bool) → Result (List Live) ManifestFault → Result (List Entry) ManifestFault
kept_of keeps read = read >>= λ found. Ok (entries_kept keeps found)

-- what is kept once an object was read, behind what was kept before it
abbrev pub kept_behind :
    (Live → Bool) → List Entry → Result (Option Live) ManifestFault → Result (List Entry) ManifestFault
kept_behind keeps front read = read >>= λ live. Ok (front ++ entries_kept keeps (kept (live ∷ [])))
