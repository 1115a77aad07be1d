-- The files of kept entries, by what they hold. No public contract cites these words.
use Rattle.std.specs.Prelude.{◌≡◌, ◌++◌, List, [], filter}
use Rattle.ice_manifest_reading.specs.declared.entry.Entry.{Entry}
use Rattle.ice_value.specs.declared.file_content.FileContent.TheVariants.{Data}
use Rattle.ice_state.specs.declared.finish.by_kind.FilesByKind.{FilesByKind}
use Rattle.ice_state.specs.declared.kept.segments.FileNumber.{FileNumber}
use Rattle.ice_state.specs.Outcomes.{by_path, twice}
use Rattle.ice_state.specs.Parts.{holds_deletes}
use Rattle.ice_state.specs.Pruning.{holds}
use Rattle.ice_state.specs.Segments.{Segmented, AreKept, entries_at}

-- each number stands for an entry
abbrev pub AreKeptByKind : Segmented → FilesByKind → Type 0
AreKeptByKind kept files = AreKept kept files.data_files.items × AreKept kept files.delete_files.items

-- the entries of the data files, and behind them those of the delete files
abbrev pub entries_by_kind : Segmented → FilesByKind → List Entry
entries_by_kind kept files = entries_at kept files.data_files.items ++ entries_at kept files.delete_files.items

-- these are the files of the entries, as these stand
abbrev pub AreFilesOf : Segmented → List Entry → List FileNumber → Type 0
AreFilesOf kept entries files = AreKept kept files × (entries_at kept files ≡ entries)

-- the same by what they hold
pub record HasFilesOf (kept : Segmented) (entries : List Entry) (files : FilesByKind) : Type 0 where
  pub numbers : AreKeptByKind kept files
  pub all : entries_at kept files.data_files.items ≡ filter (holds Data) entries
  pub all_deletes : entries_at kept files.delete_files.items ≡ filter holds_deletes entries

-- these are the files of entries in the order of their paths, of which none stands twice
pub record IsInOrder (kept : Segmented) (entries : List Entry) (files : FilesByKind) : Type 0 where
  pub has : HasFilesOf kept entries files
  pub sorted : by_path entries ≡ entries
  pub once : twice entries ≡ []

-- these are the files of the entries in the order of their paths, of which none stands twice
abbrev pub AreInOrder : Segmented → List Entry → FilesByKind → Type 0
AreInOrder kept entries files = HasFilesOf kept (by_path entries) files × (twice (by_path entries) ≡ [])
