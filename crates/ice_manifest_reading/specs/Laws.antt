-- What reading lists and manifests comes to, in words of rows and entries alone. Apache Iceberg table spec v2,
-- "Manifest Lists" and "Manifests".
use Rattle.std.specs.Prelude.{◌≡◌, ◌≢◌, ◌↔◌, ℕ, ℤ, pos, ◌+◌, ◌^◌, ◌<◌, ◌≤◌, ◌⊎◌, false, List, [], ◌∷◌, length, Option}
use Rattle.std.specs.Prelude.{Some, None, Ok, Err}
use Rattle.std.specs.Cmp.Lexicographic.{slice_cmp}
use Rattle.std.specs.Ordering.{nat_cmp, is_lt}
use Rattle.std.specs.List.{Contains, AllByRecursion}
use Rattle.std.specs.Set.{distinct_count}
use Rattle.avro_schema.specs.Tree.{Tree, structure, Fields}
use Rattle.avro_file.specs.declared.fault.AvroFault.{AvroFault}
use Rattle.avro_file.specs.Value.{Value}
use Rattle.avro_file.specs.Ahead.{running}
use Rattle.avro_file.specs.Holding.{AreWithinLimits}
use Rattle.avro_file.specs.Files.{opened_at, HoldsFile}
use Rattle.avro_file.specs.Picking.{Typed}
use Rattle.ice_value.specs.declared.file_content.FileContent.{FileContent}
use Rattle.ice_value.specs.declared.file_content.FileContent.TheVariants as holds
use Rattle.ice_value.specs.declared.file_bounds.FileBounds.{FileBounds}
use Rattle.ice_meta.specs.declared.spec.PartitionField.{PartitionField}
use Rattle.ice_meta.specs.declared.spec.Spec.{Spec}
use Rattle.ice_meta.specs.Partitioning.{is_unpartitioned}
use Rattle.ice_manifest_fields.specs.declared.fault.ListFault.TheVariants.{ManifestTwice}
use Rattle.ice_manifest_fields.specs.declared.fault.ManifestFault.TheVariants.{NoSequence}
use Rattle.ice_manifest_reading.specs.declared.row.Row.{Row}
use Rattle.ice_manifest_reading.specs.declared.row.ManifestContent.{ManifestContent}
use Rattle.ice_manifest_reading.specs.declared.row.ManifestContent.TheVariants.{Data, Deletes}
use Rattle.ice_manifest_reading.specs.declared.data_file.DataFile.{DataFile}
use Rattle.ice_manifest_reading.specs.declared.entry.Entry.{Entry}
use Rattle.ice_manifest_reading.specs.declared.entry.Live.{Live}
use Rattle.ice_manifest_reading.specs.declared.status.Status.{Status}
use Rattle.ice_manifest_reading.specs.declared.status.Status.TheVariants.{Existing, Added, Deleted}
use Rattle.ice_manifest_reading.specs.Partitions.{tuple_at}
use Rattle.ice_manifest_fields.specs.ColumnMaps.{value_counts, null_value_counts, lower_bounds, upper_bounds}
use Rattle.ice_manifest_fields.specs.Maps as Maps
use Rattle.ice_manifest_fields.specs.Maps.{bounds_at}
use Rattle.ice_manifest_fields.specs.Schemas.{Fault, fields_in, row_fields}
use Rattle.ice_manifest_reading.specs.ManifestSchemas.{entry_fields}
use Rattle.ice_manifest_fields.specs.Fields.{at, there, long_at, int_at, number_or_zero, path_at, record_at, ints_at}
use Rattle.ice_manifest_fields.specs.Fields.{optional_long, optional_number}
use Rattle.ice_manifest_reading.specs.Lists as Lists
use Rattle.ice_manifest_reading.specs.Lists.{row_of, counts_at, summaries_in, same_row, checked, in_order, rows_of}
use Rattle.ice_manifest_reading.specs.Manifests.{content_at, status_at, snapshot_at, sequence_at, file_sequence_at}
use Rattle.ice_manifest_reading.specs.Manifests.{format_at, referenced_at, kept, live_of, entries_of}

-- ---- files by their objects

-- A file opens, its objects have these fields, with which nothing is at fault, and it gives these objects and then the
-- fault, or none at its end. An object that the container can't read is none of them: its fault comes after them.
abbrev pub IsFile : (Fields → Fault) → List ℕ → Fields → List Value → Option AvroFault → Type 0
IsFile check bytes fs vs ending = (s : Tree)
    × (opened_at bytes ≡ Ok (record { schema = s; ahead = running vs ending })) × (fields_in s ≡ fs)
    × (check fs ≡ Ok tt)

abbrev pub IsList : List ℕ → Fields → List Value → Option AvroFault → Type 0
IsList bytes fs vs ending = IsFile row_fields bytes fs vs ending

abbrev pub IsManifest : Spec → List ℕ → Fields → List Value → Option AvroFault → Type 0
IsManifest spec bytes fs vs ending = IsFile (entry_fields spec) bytes fs vs ending

-- A file holds these objects up to its end, as the format says it, and they have these fields, with which nothing is at
-- fault.
abbrev pub HoldsObjects : (Fields → Fault) → List ℕ → Fields → List Value → Type 0
HoldsObjects check bytes fs vs = (s : Tree) × HoldsFile s vs bytes × AreWithinLimits vs × (fields_in s ≡ fs)
    × (check fs ≡ Ok tt)

-- ---- what an object says

-- an object of a list and its row, field by field
pub record SaysRow (x : Typed) (r : Row) : Type 0 where
  pub path : path_at (pos 500) x ≡ Ok r.path
  pub length : long_at (pos 501) x ≡ Ok r.length
  pub spec_id : int_at (pos 502) x ≡ Ok r.spec_id
  pub content : Lists.content_at x ≡ Ok r.content
  pub sequence_number : number_or_zero (pos 515) x ≡ Ok r.sequence_number
  pub min_sequence_number : number_or_zero (pos 516) x ≡ Ok r.min_sequence_number
  pub added_snapshot_id : long_at (pos 503) x ≡ Ok r.added_snapshot_id
  pub counts : counts_at x ≡ Ok r.counts
  pub partitions : summaries_in (there (at (pos 507) x)) ≡ Ok r.partitions

-- a record in a manifest of this content, whose spec has these partition fields, and its data file and what is said of
-- its columns, field by field
pub record SaysFile (of_row : ManifestContent) (ps : List PartitionField) (x : Typed) (d : DataFile) (b : FileBounds)
    : Type 0 where
  pub content : content_at of_row x ≡ Ok d.content
  pub format : format_at x ≡ d.format
  pub path : path_at (pos 100) x ≡ Ok d.path
  pub tuple : tuple_at ps x ≡ Ok d.tuple
  pub record_count : long_at (pos 103) x ≡ Ok d.record_count
  pub file_size : long_at (pos 104) x ≡ Ok d.file_size
  pub value_counts : Maps.counts_at value_counts x ≡ Ok b.value_counts
  pub null_counts : Maps.counts_at null_value_counts x ≡ Ok b.null_counts
  pub lower_bounds : bounds_at lower_bounds x ≡ Ok b.lower_bounds
  pub upper_bounds : bounds_at upper_bounds x ≡ Ok b.upper_bounds
  pub equality_ids : ints_at (pos 135) (pos 136) x ≡ Ok d.equality_ids
  pub referenced : referenced_at d.content x ≡ Ok d.referenced

-- the object at a position of a manifest and its live entry, field by field
pub record SaysLive (row : Row) (spec : Spec) (k : ℕ) (x : Typed) (l : Live) : Type 0 where
  pub status : Status
  pub inner : Typed
  pub status_is : status_at x ≡ Ok status
  pub lives : (status ≡ Existing) ⊎ (status ≡ Added)
  pub position : l.entry.position ≡ k
  pub spec_id : l.entry.spec_id ≡ row.spec_id
  pub partitions_nothing : l.entry.unpartitioned ≡ is_unpartitioned spec
  pub snapshot_id : l.entry.snapshot_id ≡ snapshot_at row x
  pub sequence_number : sequence_at row status x ≡ Ok l.entry.sequence_number
  pub file_sequence_number : file_sequence_at row status x ≡ Ok l.entry.file_sequence_number
  pub inner_is : record_at (pos 2) x ≡ Ok inner
  pub file : SaysFile row.content spec.fields inner l.entry.file l.bounds

-- an object says its live entry, or that there is none: its status is deleted, whatever else it has
abbrev pub SaysEntry : Row → Spec → ℕ → Typed → Option Live → Type 0
SaysEntry row spec k x (Some l) = SaysLive row spec k x l
SaysEntry row spec k x None = status_at x ≡ Ok Deleted

-- each object of a list says its row
abbrev pub SayRows : Fields → List Value → List Row → Type 0
SayRows fs [] [] = Unit {0}
SayRows fs (v ∷ vs) (r ∷ rows) = SaysRow (structure fs, v) r × SayRows fs vs rows
SayRows fs vs rows = ⊥

-- each object of a manifest says its entry, where the first has a position
abbrev pub SayEntries : Row → Spec → Fields → ℕ → List Value → List (Option Live) → Type 0
SayEntries row spec fs k [] [] = Unit {0}
SayEntries row spec fs k (v ∷ vs) (e ∷ read) = SaysEntry row spec k (structure fs, v) e
    × SayEntries row spec fs (k + 1) vs read
SayEntries row spec fs k vs read = ⊥

-- ---- entries

-- a manifest holds objects of which none is at fault, and these are the live entries that they say, in their order
abbrev pub HoldsEntries : Row → Spec → List ℕ → List Live → Type 0
HoldsEntries row spec bytes found = (fs : Fields) × (vs : List Value) × (read : List (Option Live))
    × HoldsObjects (entry_fields spec) bytes fs vs × SayEntries row spec fs 0 vs read × (found ≡ kept read)

-- the entries of a manifest are these exactly where its file holds objects up to its end of which none is at fault, and
-- these are the live ones that they say, in their order
abbrev pub ReadsEntriesExactly : Type 0
ReadsEntriesExactly = (row : Row) (spec : Spec) (bytes : List ℕ) (found : List Live) → live_of row spec bytes ≡ Ok found
    ↔ ((fs : Fields) × (vs : List Value) × (read : List (Option Live)) × IsManifest spec bytes fs vs None
    × SayEntries row spec fs 0 vs read × (found ≡ kept read))

-- the entries of a manifest are these exactly where its file holds objects that say them
abbrev pub GivesHeldEntries : Type 0
GivesHeldEntries = (row : Row) (spec : Spec) (bytes : List ℕ) (found : List Live) → length bytes < 2 ^ 64
    → live_of row spec bytes ≡ Ok found ↔ HoldsEntries row spec bytes found

-- an entry has the number that it names
abbrev pub KeepsItsNumber : Type 0
KeepsItsNumber = (row : Row) (status : Status) (x : Typed) (m : ℕ) → optional_number (pos 3) x ≡ Ok (Some m)
    → sequence_at row status x ≡ Ok m

-- an added one that names none has its row's
abbrev pub InheritsTheRows : Type 0
InheritsTheRows =
    (row : Row) (x : Typed) → optional_number (pos 3) x ≡ Ok None → sequence_at row Added x ≡ Ok row.sequence_number

-- an existing one that names none is refused under a row of another number than 0
abbrev pub NeedsItsOwn : Type 0
NeedsItsOwn = (row : Row) (x : Typed) → optional_number (pos 3) x ≡ Ok None → row.sequence_number ≢ 0
    → sequence_at row Existing x ≡ Err NoSequence

-- and has 0 under one of 0
abbrev pub HasZeroUnderZero : Type 0
HasZeroUnderZero = (row : Row) (x : Typed) → optional_number (pos 3) x ≡ Ok None → row.sequence_number ≡ 0
    → sequence_at row Existing x ≡ Ok 0

-- the file of an entry has the number that the entry names for it
abbrev pub KeepsItsFileNumber : Type 0
KeepsItsFileNumber = (row : Row) (status : Status) (x : Typed) (m : ℕ) → optional_number (pos 4) x ≡ Ok (Some m)
    → file_sequence_at row status x ≡ Ok (Some m)

-- that of an added one that names none has its row's
abbrev pub InheritsTheRowsForItsFile : Type 0
InheritsTheRowsForItsFile = (row : Row) (x : Typed) → optional_number (pos 4) x ≡ Ok None
    → file_sequence_at row Added x ≡ Ok (Some row.sequence_number)

-- that of an existing one that names none has none under a row of another number than 0
abbrev pub HasNoFileNumber : Type 0
HasNoFileNumber = (row : Row) (x : Typed) → optional_number (pos 4) x ≡ Ok None → row.sequence_number ≢ 0
    → file_sequence_at row Existing x ≡ Ok None

-- and 0 under one of 0
abbrev pub HasZeroForItsFile : Type 0
HasZeroForItsFile = (row : Row) (x : Typed) → optional_number (pos 4) x ≡ Ok None → row.sequence_number ≡ 0
    → file_sequence_at row Existing x ≡ Ok (Some 0)

-- an entry is of the snapshot that it names
abbrev pub KeepsItsSnapshot : Type 0
KeepsItsSnapshot = (row : Row) (x : Typed) (id : ℤ) → optional_long (pos 1) x ≡ Some id → snapshot_at row x ≡ id

-- one that names none, whether it was added or exists, of the one that added its manifest
abbrev pub InheritsItsSnapshot : Type 0
InheritsItsSnapshot =
    (row : Row) (x : Typed) → optional_long (pos 1) x ≡ None → snapshot_at row x ≡ row.added_snapshot_id

-- what the files of a row's manifest may hold
abbrev pub MayHold : ManifestContent → FileContent → Type 0
MayHold Data c = c ≡ holds.Data
MayHold Deletes c = (c ≡ holds.PositionDeletes) ⊎ (c ≡ holds.EqualityDeletes)

-- each entry that is given holds what its row's content allows
abbrev pub FitsItsRow : Type 0
FitsItsRow = (row : Row) (spec : Spec) (bytes : List ℕ) (found : List Live) (l : Live)
    → live_of row spec bytes ≡ Ok found → Contains found l → MayHold row.content l.entry.file.content

-- each entry that is given and names one data file that it is about holds position deletes
abbrev pub IsOfDeletesWhereReferenced : Type 0
IsOfDeletesWhereReferenced = (row : Row) (spec : Spec) (bytes : List ℕ) (found : List Live) (l : Live) (path : List ℕ)
    → live_of row spec bytes ≡ Ok found → Contains found l → l.entry.file.referenced ≡ Some path
    → l.entry.file.content ≡ holds.PositionDeletes

-- each entry that is given has a partition value for each field of the spec
abbrev pub HasACellForEach : Type 0
HasACellForEach = (row : Row) (spec : Spec) (bytes : List ℕ) (found : List Live) (l : Live)
    → live_of row spec bytes ≡ Ok found → Contains found l → length l.entry.file.tuple ≡ length spec.fields

-- an entry has its row's spec id, and partitions nothing where the spec does not
abbrev pub IsOfSpec : Row → Spec → Entry → Type 0
IsOfSpec row spec e = (e.spec_id ≡ row.spec_id) × (e.unpartitioned ≡ is_unpartitioned spec)

-- each entry that is given is of its row's spec
abbrev pub AreOfTheirSpec : Type 0
AreOfTheirSpec = (row : Row) (spec : Spec) (bytes : List ℕ) (found : List Entry)
    → entries_of row spec bytes ≡ Ok found → AllByRecursion (IsOfSpec row spec) found

-- ---- rows

-- a list without a fault up to its end, whose objects say these rows
abbrev pub HasRows : List ℕ → List Row → Type 0
HasRows bytes rows = (fs : Fields) × (vs : List Value) × IsList bytes fs vs None × SayRows fs vs rows

-- no two different rows have one path
abbrev pub HasEachPathOnce : List Row → Type 0
HasEachPathOnce rows = (r s : Row) → Contains rows r → Contains rows s → r.path ≡ s.path → r ≡ s

-- a list holds objects of which none is at fault, no two different rows that they say have one path, at most 65,536 are
-- different, and these are the rows, each once and in the order of their paths
abbrev pub HoldsRows : List ℕ → List Row → Type 0
HoldsRows bytes found = (fs : Fields) × (vs : List Value) × (rows : List Row) × HoldsObjects row_fields bytes fs vs
    × SayRows fs vs rows × HasEachPathOnce rows × (distinct_count same_row rows ≤ 65536) × (found ≡ in_order rows)

-- the rows of a list are these exactly where its file has no fault up to its end, and these are the rows that its
-- objects say, each once and in the order of their paths; no two different ones have one path, and at most 65,536 are
-- different
abbrev pub ReadsRowsExactly : Type 0
ReadsRowsExactly = (bytes : List ℕ) (found : List Row) → rows_of bytes ≡ Ok found
    ↔ ((rows : List Row) × HasRows bytes rows × HasEachPathOnce rows
    × (distinct_count same_row rows ≤ 65536) × (found ≡ in_order rows))

-- the rows of a list are these exactly where its file holds objects that say them
abbrev pub GivesHeldRows : Type 0
GivesHeldRows = (bytes : List ℕ) (found : List Row) → length bytes < 2 ^ 64
    → rows_of bytes ≡ Ok found ↔ HoldsRows bytes found

-- the rows that are given are the rows of the file, as a set
abbrev pub GivesTheRows : Type 0
GivesTheRows = (rows found : List Row) → checked (in_order rows) ≡ Ok found → (r : Row)
    → (Contains found r ↔ Contains rows r)

-- two different rows of the file have the path
abbrev pub HasTwo : List Row → List ℕ → Type 0
HasTwo rows path = (r : Row) × (s : Row) × Contains rows r × Contains rows s × (r ≢ s) × (r.path ≡ path)
    × (s.path ≡ path)

-- a path is refused only where two different rows have it
abbrev pub RefusesTwo : Type 0
RefusesTwo = (rows : List Row) (path : List ℕ) → checked (in_order rows) ≡ Err (ManifestTwice path) → HasTwo rows path

-- and only the least such path
abbrev pub RefusesTheLeast : Type 0
RefusesTheLeast = (rows : List Row) (path : List ℕ) → checked (in_order rows) ≡ Err (ManifestTwice path)
    → (r s : Row) → Contains rows r → Contains rows s → r ≢ s → r.path ≡ s.path
    → is_lt (slice_cmp nat_cmp r.path path) ≡ false
