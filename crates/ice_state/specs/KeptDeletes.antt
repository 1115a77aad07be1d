-- The delete files that a state keeps, and their index. No public contract cites these words.
use Rattle.std.specs.Prelude.{List, ◌++◌, Option, IfSome, filter, length, map}
use Rattle.std.specs.List.Sorted.{IsPermutation}
use Rattle.ice_manifest_reading.specs.declared.entry.Entry.{Entry}
use Rattle.ice_deletes.specs.Found.{numbered_deletes}
use Rattle.ice_deletes.specs.Unions.{AreBelow}
use Rattle.ice_state.specs.declared.kept.deletes.KeptDeletes.{KeptDeletes}
use Rattle.ice_state.specs.declared.kept.indexed.IndexedDeletes.{IndexedDeletes}
use Rattle.ice_state.specs.declared.kept.taken.Taken.{Taken}
use Rattle.ice_state.specs.Applying.{delete_key_of}
use Rattle.ice_state.specs.Outcomes.{kept_in}
use Rattle.ice_state.specs.Parts.{holds_deletes}
use Rattle.ice_state.specs.Segments.{Segmented, AreKept, entries_at}
use Rattle.ice_state.specs.Slots.{contents, HaveNumbers}

-- each number of the index is the place of one of the files
abbrev pub HasPlaces : IndexedDeletes → Type 0
HasPlaces deletes = AreBelow (length deletes.files.items) deletes.index

-- the files are the delete files among these entries, each as often as there, and the index has them by their places
pub record IsIndexOf (kept : Segmented) (entries : List Entry) (deletes : IndexedDeletes) : Type 0 where
  pub files : AreKept kept deletes.files.items
  pub all : IsPermutation (filter holds_deletes entries) (entries_at kept deletes.files.items)
  pub index : IsPermutation (numbered_deletes (map delete_key_of (entries_at kept deletes.files.items))) deletes.index

-- the same among some entries
abbrev pub IsIndexed : Segmented → IndexedDeletes → Type 0
IsIndexed kept deletes = (entries : List Entry) × IsIndexOf kept entries deletes

-- these are the delete files of the entries: the index is that of the first ones, and the files of the others wait
pub record AreDeletesOf (kept : Segmented) (entries : List Entry) (deletes : KeptDeletes) : Type 0 where
  pub first : List Entry
  pub others : List Entry
  pub parts : IsPermutation (first ++ others) entries
  pub index : IsIndexOf kept first deletes.indexed
  pub files : AreKept kept deletes.waiting.items
  pub waiting : IsPermutation (filter holds_deletes others) (entries_at kept deletes.waiting.items)

-- the same of some entries
abbrev pub AreDeletes : Segmented → KeptDeletes → Type 0
AreDeletes kept deletes = (entries : List Entry) × AreDeletesOf kept entries deletes

-- what a state keeps: its numbers stand for entries, and where its delete files weren't dropped they are those of its
-- entries
pub record IsState (kept : Segmented) (slots : List (Option Taken)) (deletes : Option KeptDeletes) : Type 0 where
  pub numbers : HaveNumbers kept slots
  pub all_deletes : IfSome deletes (AreDeletesOf kept (kept_in (contents kept slots)))
