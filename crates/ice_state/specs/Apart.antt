-- Entries that share no path with others. No public contract cites these words.
use Rattle.std.specs.Prelude.{◌≡◌, ℕ, suc, ◌<◌, ◌≤◌, ◌-◌, true, List, length, slice_index_or, ◌⊎◌}
use Rattle.std.specs.Cmp.Lexicographic.{slice_cmp}
use Rattle.std.specs.Ordering.{nat_cmp, is_lt}
use Rattle.ice_manifest_reading.specs.declared.entry.Entry.{Entry}
use Rattle.ice_state_entries.specs.Kept.{no_entry}
use Rattle.ice_state.specs.declared.kept.segments.FileNumber.{FileNumber}
use Rattle.ice_state.specs.Outcomes.{by_path}
use Rattle.ice_state.specs.Segments.{AreKept, Segmented, entries_at}
use Rattle.ice_state.specs.Shares.{count_at}

-- kept files in the order of their paths
pub record AreSorted (segments : Segmented) (files : List FileNumber) : Type 0 where
  pub kept : AreKept segments files
  pub sorted : by_path (entries_at segments files) ≡ entries_at segments files

-- no path is that of entries of both
abbrev pub ShareNoPath : List Entry → List Entry → Type 0
ShareNoPath xs ys = (path : List ℕ) → (count_at xs path ≡ 0) ⊎ (count_at ys path ≡ 0)

-- the path of the entry at a place
abbrev pub path_at : List Entry → ℕ → List ℕ
path_at xs place = (slice_index_or xs place no_entry).file.path

-- the path stands behind that of the entry before a place
abbrev pub IsBehind : List Entry → List ℕ → ℕ → Type 0
IsBehind xs path place = (k : ℕ) → suc k ≡ place → is_lt (slice_cmp nat_cmp (path_at xs k) path) ≡ true

-- the path stands in front of that of the entry at a place
abbrev pub IsInFront : List Entry → List ℕ → ℕ → Type 0
IsInFront xs path place = place < length xs → is_lt (slice_cmp nat_cmp path (path_at xs place)) ≡ true

-- the path stands in the gap in front of the entry at a place
pub record IsGap (xs : List Entry) (path : List ℕ) (place : ℕ) : Type 0 where
  pub within : place ≤ length xs
  pub behind : IsBehind xs path place
  pub in_front : IsInFront xs path place

-- of some entries those from one place to another: the last of them stands in front of the same gap's end as the first
pub record IsRun (xs some : List Entry) (first gap end : ℕ) : Type 0 where
  pub after : first < end
  pub within : end ≤ length some
  pub in_front : IsInFront xs (path_at some (end - 1)) gap
