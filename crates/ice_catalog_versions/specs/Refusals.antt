-- Why a commit is refused. Each definition is one reason; of several that stand the first in the order of `refusal` is
-- told, with the least of its paths or ids.
use Rattle.std.specs.Prelude.{ℕ, ℤ, pos, negsuc, Bool, true, false, not, ◌&&◌, ◌||◌, ◌+◌, ◌++◌, List, [], ◌∷◌, length}
use Rattle.std.specs.Prelude.{map, filter, find, fold, nat_lt, nat_le, Option, None, Some, option_map, is_some, is_none}
use Rattle.std.specs.Prelude.{if◌then◌else◌}
use Rattle.std.specs.List.{list_any}
use Rattle.std.specs.Ordering.{nat_cmp, int_cmp, int_eq, is_lt}
use Rattle.std.specs.Cmp.Lexicographic.{slice_cmp}
use Rattle.std.specs.List.Sorted.{IsSortedBy}
use Rattle.std.specs.Str.{bytes_eq}
use denote.Ref.{Bor}
use Rattle.contract_words.specs.Sorting.{sorted}
use Rattle.ice_value.specs.declared.file_content.FileContent.{FileContent}
use Rattle.ice_value.specs.declared.file_content.FileContent.TheVariants as holds
use Rattle.ice_meta.specs.declared.spec.Spec.{Spec}
use Rattle.ice_meta.specs.declared.table.Table.{Table}
use Rattle.ice_meta.specs.Logs.{newest_time}
use Rattle.ice_meta.specs.Targets.{snapshot_with}
use Rattle.ice_manifest_reading.specs.declared.entry.Entry.{Entry}
use Rattle.ice_manifest.specs.declared.new_file.NewFile.{NewFile}
use Rattle.ice_manifest_reading.specs.declared.row.ManifestContent.{ManifestContent}
use Rattle.ice_manifest_reading.specs.declared.row.ManifestContent.TheVariants.{Data, Deletes}
use Rattle.ice_manifest_reading.specs.declared.row.Row.{Row}
use Rattle.ice_catalog_changes.specs.declared.change.Change.{Change}
use Rattle.ice_catalog_changes.specs.declared.change.Commit.{Commit}
use Rattle.ice_catalog_changes.specs.declared.fault.PrepareFault.{PrepareFault}
use Rattle.ice_catalog_changes.specs.declared.fault.PrepareFault.TheVariants as fault
use Rattle.ice_catalog_versions.specs.declared.world.World.{World}
use Rattle.ice_catalog_versions.specs.Bases.{table_specs, spec_in, current_list, current_rows, manifest_at, base_rows}
use Rattle.ice_catalog_versions.specs.Bases.{live_entries}
use Rattle.ice_catalog_versions.specs.Groups.{groups}
use Rattle.ice_catalog_versions.specs.States.{State}
use Rattle.ice_catalog_versions.specs.Tuples.{fits_spec}

-- ---- the least of paths and ids

-- by their bytes
abbrev pub path_before : List ℕ → List ℕ → Bool
path_before path other = is_lt (slice_cmp nat_cmp path other)

abbrev pub lesser_path : Option (List ℕ) → List ℕ → Option (List ℕ)
lesser_path None path = Some path
lesser_path (Some least) path = if path_before path least then Some path else Some least

abbrev pub least_path : List (List ℕ) → Option (List ℕ)
least_path paths = fold lesser_path None paths

abbrev pub lesser_id : Option ℤ → ℤ → Option ℤ
lesser_id None id = Some id
lesser_id (Some least) id = if is_lt (int_cmp id least) then Some id else Some least

abbrev pub least_id : List ℤ → Option ℤ
least_id ids = fold lesser_id None ids

-- ---- the files of a change

-- all of them, the data files first
abbrev pub all_files : Change → List NewFile
all_files c = c.files ++ c.deletes

abbrev pub path_of : NewFile → List ℕ
path_of file = file.path

abbrev pub spec_id_of : NewFile → ℤ
spec_id_of file = file.spec_id

-- the paths of the files that are so
abbrev pub paths_where : (NewFile → Bool) → List NewFile → List (List ℕ)
paths_where so files = map path_of (filter so files)

-- ---- the names that the commit takes

-- There is nothing to commit.
abbrev pub empty : List NewFile → List NewFile → Option PrepareFault
empty [] [] = Some fault.Empty
empty _ _ = None

-- The table has a snapshot of this id, or the id stands for none.
abbrev pub snapshot_taken : Table → ℤ → Option PrepareFault
snapshot_taken t id = if int_eq id (negsuc 0) || is_some (snapshot_with id t) then Some fault.SnapshotTaken else None

-- The table's last sequence number is the greatest long.
abbrev pub sequence_end : Table → Option PrepareFault
sequence_end t = if nat_lt t.last_sequence_number 0x7fff_ffff_ffff_ffff then None else Some fault.SequenceEnd

-- ---- the files by themselves

-- of paths in their order, the first behind this one that its neighbour is equal to
abbrev pub twice_after : List ℕ → List (List ℕ) → Option (List ℕ)
twice_after p [] = None
twice_after p (q ∷ ps) = if bytes_eq q p then Some q else twice_after q ps

abbrev pub first_twice : List (List ℕ) → Option (List ℕ)
first_twice [] = None
first_twice (p ∷ ps) = twice_after p ps

-- the paths of the change in the order of their bytes
abbrev pub sorted_paths : Change → List (List ℕ)
sorted_paths c = sorted path_before (map path_of (all_files c))

-- paths behind references, in the order of their bytes
abbrev pub AreSorted : List (Bor (List ℕ)) → Type 0
AreSorted paths = IsSortedBy (λ a b. path_before a.now b.now) paths

-- Two files have one path.
abbrev pub path_twice : Change → Option PrepareFault
path_twice c = option_map fault.PathTwice (first_twice (sorted_paths c))

-- a number from 0 to 2^40
abbrev pub is_count : ℤ → Bool
is_count (pos n) = nat_le n 0x100_0000_0000
is_count (negsuc n) = false

-- data files are for manifests of data, and delete files for those of deletes
abbrev pub is_for : ManifestContent → FileContent → Bool
is_for Data holds.Data = true
is_for Deletes holds.PositionDeletes = true
is_for Deletes holds.EqualityDeletes = true
is_for _ _ = false

-- equality deletes have from 1 to 1,000 equality ids, and other files at most 1,000
abbrev pub are_ids : FileContent → ℕ → Bool
are_ids holds.EqualityDeletes count = nat_lt 0 count && nat_le count 1000
are_ids _ count = nat_le count 1000

-- only position deletes name the one data file that they are about, by at most 65,535 bytes
abbrev pub may_name : FileContent → Option (List ℕ) → Bool
may_name holds.PositionDeletes (Some path) = nat_le (length path) 65535
may_name _ (Some path) = false
may_name _ None = true

abbrev pub is_good : ManifestContent → NewFile → Bool
is_good content file =
    is_count file.record_count && (is_count file.file_size && (nat_le (length file.path) 65535
    && (is_for content file.content && (are_ids file.content (length file.equality_ids)
    && may_name file.content file.referenced))))

abbrev pub is_bad : ManifestContent → NewFile → Bool
is_bad content file = not (is_good content file)

-- A number, a path or the content of a file is outside its range.
abbrev pub bad_file : Change → Option PrepareFault
bad_file c =
    option_map fault.BadFile (least_path (paths_where (is_bad Data) c.files ++ paths_where (is_bad Deletes) c.deletes))

-- ---- the files by the table's partition specs

abbrev pub is_unknown : List Spec → ℤ → Bool
is_unknown specs id = is_none (spec_in specs id)

-- A file names a partition spec that the table hasn't.
abbrev pub no_such_spec : List Spec → Change → Option PrepareFault
no_such_spec specs c = option_map fault.NoSuchSpec (least_id (filter (is_unknown specs) (map spec_id_of (all_files c))))

abbrev pub is_wrong : List Spec → NewFile → Bool
is_wrong specs file = not (fits_spec (spec_in specs file.spec_id) file.tuple)

-- The partition values of a file don't fit its spec.
abbrev pub wrong_tuple : List Spec → Change → Option PrepareFault
wrong_tuple specs c = option_map fault.WrongTuple (least_path (paths_where (is_wrong specs) (all_files c)))

-- ---- the base

-- the first of these rows whose manifest can't be read; rows are in the order of their paths
abbrev pub unreadable : (Row → Option (List Entry)) → List Row → Option (List ℕ)
unreadable live rows = option_map (λ (row : Row). row.path) (find (λ row. is_none (live row)) rows)

abbrev pub bad_path : Option (List ℕ) → (Row → Option (List Entry)) → Option (List Row) → Option (List ℕ)
bad_path list live None = list
bad_path list live (Some rows) = unreadable live rows

-- The list of the current snapshot, else one of its manifests, is absent or refused, or of an unknown spec.
abbrev pub base_bad : World → Table → Option PrepareFault
base_bad world t =
    option_map fault.BaseBad (bad_path (current_list t) (manifest_at world (table_specs t)) (current_rows world t))

abbrev pub is_among : List (List ℕ) → List ℕ → Bool
is_among paths path = list_any (bytes_eq path) paths

-- the paths of live entries that are among these
abbrev pub live_among : List (List ℕ) → List Entry → List (List ℕ)
live_among paths found = filter (is_among paths) (map (λ (entry : Entry). entry.file.path) found)

-- One of these paths is live in the current snapshot.
abbrev pub path_taken : World → Table → List (List ℕ) → Option PrepareFault
path_taken world t paths = option_map fault.PathTaken (least_path (live_among paths (live_entries world t)))

-- ---- the sizes

-- The new list has more than 65,536 rows, or the change more than 1,000,000 files.
abbrev pub too_many : ℕ → ℕ → Option PrepareFault
too_many rows files = if nat_lt 65_536 rows || nat_lt 1_000_000 files then Some fault.TooManyRows else None

abbrev pub too_many_rows : World → Table → Change → Option PrepareFault
too_many_rows world t c = too_many (length (base_rows world t) + length (groups c)) (length (all_files c))

-- ---- the order in time

-- The commit is of a time before the newest entry of the table's snapshot log, whose entries are in the order of time.
abbrev pub out_of_order : Option ℤ → ℤ → Option PrepareFault
out_of_order None now = None
out_of_order (Some newest) now = if is_lt (int_cmp now newest) then Some fault.OutOfOrder else None

-- ---- all of them

-- the first reason that stands
abbrev pub first_reason : List (Option PrepareFault) → Option PrepareFault
first_reason [] = None
first_reason (None ∷ reasons) = first_reason reasons
first_reason (Some reason ∷ reasons) = Some reason

-- what is asked, in this order
abbrev pub reasons : State → Commit → List (Option PrepareFault)
reasons s c =
    empty c.change.files c.change.deletes
    ∷ snapshot_taken s.metadata.table c.ids.snapshot
    ∷ sequence_end s.metadata.table
    ∷ path_twice c.change
    ∷ bad_file c.change
    ∷ no_such_spec (table_specs s.metadata.table) c.change
    ∷ wrong_tuple (table_specs s.metadata.table) c.change
    ∷ base_bad s.world s.metadata.table
    ∷ path_taken s.world s.metadata.table (sorted_paths c.change)
    ∷ too_many_rows s.world s.metadata.table c.change
    ∷ out_of_order (newest_time s.metadata.json) c.ids.now_ms
    ∷ []

-- why the commit is refused: the first reason that stands
unfoldable pub refusal : State → Commit → Option PrepareFault
refusal s c = first_reason (reasons s c)
