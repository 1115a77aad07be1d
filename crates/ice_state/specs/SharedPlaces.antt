-- Lines of which many have the same places: a list has these once, and each line says where. No public contract cites
-- these words.
use Rattle.std.specs.Prelude.{ℕ, ◌<◌, List, length, map, slice_index_or}
use Rattle.std.specs.List.{AllByRecursion}
use Rattle.ice_manifest_reading.specs.declared.entry.Entry.{Entry}
use Rattle.ice_state_entries.specs.Kept.{AreNeighbours, no_entry}
use Rattle.ice_state.specs.PlaceLists.{LinePlaces, no_places}

-- the line at a place
abbrev pub line_in : List LinePlaces → ℕ → LinePlaces
line_in lists i = slice_index_or lists i no_places

-- the same of many places
abbrev pub lines_in : List LinePlaces → List ℕ → List LinePlaces
lines_in lists lines = map (line_in lists) lines

-- there is a list at each place
abbrev pub AreIn : List LinePlaces → List ℕ → Type 0
AreIn lists lines = AllByRecursion (λ n. n < length lists) lines

-- the files from one place to another, the first of them aside, are neighbours of that one
abbrev pub AreBeside : List Entry → ℕ → ℕ → Type 0
AreBeside files first next =
    (i : ℕ) → first < i → i < next →
    AreNeighbours (slice_index_or files first no_entry) (slice_index_or files i no_entry)
