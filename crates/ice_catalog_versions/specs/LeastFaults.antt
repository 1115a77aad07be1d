-- Which refusal a commit gets: of all that is at fault with it, the least. What is at fault is said by itself here, and
-- not by a walk that stops at the first.
use Rattle.std.specs.Prelude.{◌≡◌, ◌≢◌, ◌↔◌, ◌⊎◌, ◌<◌, ◌≤◌, ◌<ℤ◌, ℕ, ℤ, negsuc, true, false, List, [], length}
use Rattle.std.specs.Prelude.{slice_get, Option, None, Some, Ok, Err}
use Rattle.std.specs.List.{Contains}
use Rattle.ice_value.specs.declared.cell.Cell.{Cell}
use Rattle.ice_meta.specs.declared.snapshot.Snapshot.{Snapshot}
use Rattle.ice_meta.specs.declared.spec.PartitionField.{PartitionField}
use Rattle.ice_meta.specs.declared.spec.Spec.{Spec}
use Rattle.ice_meta.specs.declared.table.Table.{Table}
use Rattle.ice_meta.specs.Logs.{newest_time}
use Rattle.ice_manifest_reading.specs.declared.entry.Entry.{Entry}
use Rattle.ice_manifest_reading.specs.declared.row.ManifestContent.TheVariants.{Data, Deletes}
use Rattle.ice_manifest_reading.specs.declared.row.Row.{Row}
use Rattle.ice_manifest.specs.declared.new_file.NewFile.{NewFile}
use Rattle.ice_catalog_changes.specs.declared.change.Change.{Change}
use Rattle.ice_catalog_changes.specs.declared.change.Commit.{Commit}
use Rattle.ice_catalog_changes.specs.declared.fault.PrepareFault.{PrepareFault}
use Rattle.ice_catalog_changes.specs.declared.fault.PrepareFault.TheVariants as fault
use Rattle.ice_catalog_versions.specs.Bases.{current_list, table_specs}
use Rattle.ice_catalog_versions.specs.Histories.{History, prepared_on, state_of}
use Rattle.ice_catalog_versions.specs.Live.{entries_at, listed_rows, rows_after}
use Rattle.ice_catalog_versions.specs.LiveAfter.{IsLive}
use Rattle.ice_catalog_versions.specs.Refusals.{all_files, is_good, path_before}
use Rattle.ice_catalog_versions.specs.States.{State}
use Rattle.ice_catalog_versions.specs.Tuples.{allowed_of, allows}

-- ---- the commit by itself

-- a snapshot of the table has this id, or the id stands for none
abbrev pub IsSnapshotTaken : Table → ℤ → Type 0
IsSnapshotTaken t id = (id ≡ negsuc 0) ⊎ ((snapshot : Snapshot) × Contains t.snapshots snapshot × (snapshot.id ≡ id))

-- the file at this place has this path
abbrev pub HasPathAt : List NewFile → ℕ → List ℕ → Type 0
HasPathAt files place path = (file : NewFile) × (slice_get files place ≡ Some file) × (file.path ≡ path)

-- two files of the change have this path
abbrev pub IsTwice : Change → List ℕ → Type 0
IsTwice c path = (place other : ℕ) × (place < other) × HasPathAt (all_files c) place path
    × HasPathAt (all_files c) other path

-- one of these files is so, and has this path
abbrev pub OneIs : (NewFile → Type 0) → List NewFile → List ℕ → Type 0
OneIs IsSo files path = (file : NewFile) × Contains files file × IsSo file × (file.path ≡ path)

-- a file of this path is out of the ranges of its list
abbrev pub IsBad : Change → List ℕ → Type 0
IsBad c path = OneIs (λ file. is_good Data file ≡ false) c.files path
    ⊎ OneIs (λ file. is_good Deletes file ≡ false) c.deletes path

-- ---- the files by the table's partition specs

-- no spec has this id
abbrev pub IsUnknown : List Spec → ℤ → Type 0
IsUnknown specs id = (spec : Spec) → Contains specs spec → spec.id ≢ id

-- a file names a spec of this id, which the table hasn't
abbrev pub IsNamedUnknown : List Spec → Change → ℤ → Type 0
IsNamedUnknown specs c id = (file : NewFile) × Contains (all_files c) file × (file.spec_id ≡ id) × IsUnknown specs id

-- the spec is that of this id, the first where there are several
abbrev pub IsSpecOf : List Spec → ℤ → Spec → Type 0
IsSpecOf specs id spec = (place : ℕ) × (slice_get specs place ≡ Some spec) × (spec.id ≡ id)
    × ((before : ℕ) (other : Spec) → before < place → slice_get specs before ≡ Some other → other.id ≢ id)

-- as many values as fields, and each is one that its field may have
abbrev pub Fit : List PartitionField → List Cell → Type 0
Fit fields tuple = (length fields ≡ length tuple)
    × ((place : ℕ) (field : PartitionField) (cell : Cell) → slice_get fields place ≡ Some field
    → slice_get tuple place ≡ Some cell → allows (allowed_of field) cell ≡ true)

-- the file's partition values fit no spec of its id
abbrev pub IsWrong : List Spec → NewFile → Type 0
IsWrong specs file = (spec : Spec) → IsSpecOf specs file.spec_id spec → Fit spec.fields file.tuple → ⊥

-- ---- the base

-- the list of the current snapshot is at this path, and can't be read
abbrev pub IsBadList : State → List ℕ → Type 0
IsBadList s path = (current_list s.metadata.table ≡ Some path) × (listed_rows s ≡ None)

-- a manifest of the current snapshot is at this path, and can't be read
abbrev pub IsBadManifest : State → List ℕ → Type 0
IsBadManifest s path = (rows : List Row) × (row : Row) × (listed_rows s ≡ Some rows) × Contains rows row
    × (entries_at s row ≡ None) × (row.path ≡ path)

-- a file of the change has the path of a live file
abbrev pub IsTaken : State → Change → List ℕ → Type 0
IsTaken s c path = (file : NewFile) × (entry : Entry) × Contains (all_files c) file × (file.path ≡ path)
    × IsLive s entry × (entry.file.path ≡ path)

-- the newest entry of the snapshot log is of a later time
abbrev pub IsEarlier : Option ℤ → ℤ → Type 0
IsEarlier time now = (newest : ℤ) × (time ≡ Some newest) × (now <ℤ newest)

-- ---- all of them

-- the commit has this fault
abbrev pub HasFault : State → Commit → PrepareFault → Type 0
HasFault s c fault.Empty = all_files c.change ≡ []
HasFault s c fault.SnapshotTaken = IsSnapshotTaken s.metadata.table c.ids.snapshot
HasFault s c fault.SequenceEnd = 0x7fff_ffff_ffff_ffff ≤ s.metadata.table.last_sequence_number
HasFault s c (fault.PathTwice path) = IsTwice c.change path
HasFault s c (fault.BadFile path) = IsBad c.change path
HasFault s c (fault.NoSuchSpec id) = IsNamedUnknown (table_specs s.metadata.table) c.change id
HasFault s c (fault.WrongTuple path) = OneIs (IsWrong (table_specs s.metadata.table)) (all_files c.change) path
HasFault s c (fault.BaseBad path) = IsBadList s path ⊎ IsBadManifest s path
HasFault s c (fault.PathTaken path) = IsTaken s c.change path
HasFault s c fault.TooManyRows = (65_536 < length (rows_after s c)) ⊎ (1_000_000 < length (all_files c.change))
HasFault s c fault.OutOfOrder = IsEarlier (newest_time s.metadata.json) c.ids.now_ms
HasFault s c fault.Memory = ⊥

-- what is asked first is lower; that memory runs out is nothing that the commit has
abbrev pub rank : PrepareFault → ℕ
rank fault.Empty = 0
rank fault.SnapshotTaken = 1
rank fault.SequenceEnd = 2
rank (fault.PathTwice path) = 3
rank (fault.BadFile path) = 4
rank (fault.NoSuchSpec id) = 5
rank (fault.WrongTuple path) = 6
rank (fault.BaseBad path) = 7
rank (fault.PathTaken path) = 8
rank fault.TooManyRows = 9
rank fault.OutOfOrder = 10
rank fault.Memory = 11

-- two faults of one kind, of which the first names the lesser path or id
abbrev pub NamesLess : PrepareFault → PrepareFault → Type 0
NamesLess (fault.PathTwice path) (fault.PathTwice other) = path_before path other ≡ true
NamesLess (fault.BadFile path) (fault.BadFile other) = path_before path other ≡ true
NamesLess (fault.NoSuchSpec id) (fault.NoSuchSpec other) = id <ℤ other
NamesLess (fault.WrongTuple path) (fault.WrongTuple other) = path_before path other ≡ true
NamesLess (fault.BaseBad path) (fault.BaseBad other) = path_before path other ≡ true
NamesLess (fault.PathTaken path) (fault.PathTaken other) = path_before path other ≡ true
NamesLess _ _ = ⊥

abbrev pub IsBefore : PrepareFault → PrepareFault → Type 0
IsBefore f g = (rank f < rank g) ⊎ NamesLess f g

-- the commit has this fault, and none that is before it
abbrev pub IsLeast : State → Commit → PrepareFault → Type 0
IsLeast s c f = HasFault s c f × ((g : PrepareFault) → HasFault s c g → IsBefore g f → ⊥)

-- On a history that leaves a state, a commit is refused for the least of its faults,
abbrev pub TellsTheLeast : Type 0
TellsTheLeast = (h : History) (s : State) (c : Commit) (f : PrepareFault) → state_of h ≡ Some s
    → (prepared_on h c ≡ Err f) ↔ IsLeast s c f

-- and it is prepared exactly where it has none.
abbrev pub PreparesWhereNoneIsThere : Type 0
PreparesWhereNoneIsThere = (h : History) (s : State) (c : Commit) → state_of h ≡ Some s
    → (prepared_on h c ≡ Ok (record { base = h; commit = c })) ↔ ((f : PrepareFault) → HasFault s c f → ⊥)
