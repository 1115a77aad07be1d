-- Entries that are kept, by their numbers: the first one of each path, and the further ones.
use Rattle.std.specs.Prelude.{◌≡◌, ◌≢◌, ℕ, ◌+◌, ◌<◌, false, List, [], length, map, slice_index_or, None, pos}
use Rattle.std.specs.List.{AllByRecursion}
use Rattle.ice_value.specs.declared.file_content.FileContent.TheVariants.{Data}
use Rattle.ice_manifest_reading.specs.declared.entry.Entry.{Entry}
use Rattle.ice_state_entries.specs.declared.entries.EntryNumber.{EntryNumber}
use Rattle.ice_state_entries.specs.declared.entries.EntryNumber.TheVariants.{Record, Clash}

pub record Kept : Type 0 where
  pub records : List Entry
  pub clashes : List Entry

-- none yet
abbrev pub nothing_kept : Kept
nothing_kept = record { records = []; clashes = [] }

-- what no number stands for
abbrev pub no_entry : Entry
no_entry =
    record {
      position = 0;
      spec_id = pos 0;
      unpartitioned = false;
      snapshot_id = pos 0;
      sequence_number = 0;
      file_sequence_number = None;
      file = record {
        content = Data;
        format = None;
        path = [];
        tuple = [];
        record_count = pos 0;
        file_size = pos 0;
        equality_ids = [];
        referenced = None;
      };
    }

-- how many there are
abbrev pub count : Kept → ℕ
count kept = length kept.records + length kept.clashes

-- an entry is kept by this number
abbrev pub IsKept : Kept → EntryNumber → Type 0
IsKept kept (Record n) = n < length kept.records
IsKept kept (Clash n) = n < length kept.clashes

-- the entry of a number
abbrev pub entry_at : Kept → EntryNumber → Entry
entry_at kept (Record n) = slice_index_or kept.records n no_entry
entry_at kept (Clash n) = slice_index_or kept.clashes n no_entry

-- the same of many numbers
abbrev pub AreKept : Kept → List EntryNumber → Type 0
AreKept kept numbers = AllByRecursion (IsKept kept) numbers

abbrev pub entries_at : Kept → List EntryNumber → List Entry
entries_at kept numbers = map (entry_at kept) numbers

-- the files of two entries are of one spec, with the same partition values and the same sequence number
pub record AreNeighbours (a b : Entry) : Type 0 where
  pub spec : a.spec_id ≡ b.spec_id
  pub tuple : a.file.tuple ≡ b.file.tuple
  pub number : a.sequence_number ≡ b.sequence_number

-- each number of the old ones stands for the same entry in the new ones
abbrev pub Keeps : Kept → Kept → Type 0
Keeps old new = (n : EntryNumber) → IsKept old n → IsKept new n × (entry_at new n ≡ entry_at old n)

-- no two records have a path in common
abbrev pub HasEachPathOnce : Kept → Type 0
HasEachPathOnce kept =
    (m n : ℕ) → m < n → n < length kept.records →
    (entry_at kept (Record m)).file.path ≢ (entry_at kept (Record n)).file.path

-- the path of each clash is that of a record
abbrev pub HasKnownPaths : Kept → Type 0
HasKnownPaths kept =
    (n : ℕ) → n < length kept.clashes →
    (m : ℕ) × (m < length kept.records) ×
    ((entry_at kept (Record m)).file.path ≡ (entry_at kept (Clash n)).file.path)
