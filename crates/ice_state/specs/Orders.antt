-- The entries of a manifest, kept by position, in the order of their paths. No public contract cites these words.
use Rattle.std.specs.Prelude.{◌≡◌, ℕ, List, [], length, IsTrue, None, slice_index_or}
use Rattle.std.specs.List.{flat_map, range_with_len}
use Rattle.std.specs.List.Sorted.{IsPermutation}
use Rattle.ice_manifest_reading.specs.declared.entry.Entry.{Entry}
use Rattle.ice_state_entries.specs.Kept.{Kept, AreKept, entries_at as kept_at}
use Rattle.ice_state.specs.declared.kept.ordered.Ordered.{Ordered}
use Rattle.ice_state.specs.Contents.{Content}
use Rattle.ice_state.specs.Lines.{entries_at, AreWithin}
use Rattle.ice_state.specs.Outcomes.{by_path, entries_in, twice}

-- at these places, each once, stand the entries by path
pub record IsOrder (entries : List Entry) (places : List ℕ) : Type 0 where
  pub within : AreWithin (length entries) places
  pub all : IsPermutation (range_with_len 0 (length entries)) places
  pub sorted : entries_at entries places ≡ by_path entries

-- each number stands for an entry, and the order is that of these entries; no path stands twice where it says so
pub record AreOrdered (kept : Kept) (ordered : Ordered) : Type 0 where
  pub numbers : AreKept kept ordered.numbers
  pub order : IsOrder (kept_at kept ordered.numbers) ordered.order
  pub once : IsTrue ordered.rise → twice (by_path (kept_at kept ordered.numbers)) ≡ []

-- the kept entries of a content, row by row, those of each row by path
abbrev pub runs_in : Content → List Entry
runs_in c = flat_map (λ slot. by_path (entries_in slot)) c

-- the kept entries of one row, by path
abbrev pub run_at : Content → ℕ → List Entry
run_at c row = by_path (entries_in (slice_index_or c row None))

-- those of rows, as these come
abbrev pub runs_at : Content → List ℕ → List Entry
runs_at c rows = flat_map (run_at c) rows
