-- Entries that are kept in segments. No public contract cites these words.
use Rattle.std.specs.Prelude.{◌≡◌, ℕ, ◌<◌, ◌++◌, ◌^◌, List, length, map, slice_index_or}
use Rattle.std.specs.List.{AllByRecursion}
use Rattle.ice_manifest_reading.specs.declared.entry.Entry.{Entry}
use Rattle.ice_state_entries.specs.Kept.{Kept, nothing_kept, IsKept as IsKeptIn, entry_at as entry_in, Keeps as KeepsIn}
use Rattle.ice_state.specs.declared.kept.segments.FileNumber.{FileNumber}

-- what each segment keeps
abbrev pub Segmented : Type 0
Segmented = List Kept

abbrev pub segment_at : Segmented → ℕ → Kept
segment_at segments n = slice_index_or segments n nothing_kept

-- an entry is kept by this number
abbrev pub IsKept : Segmented → FileNumber → Type 0
IsKept segments n = (n.segment < length segments) × IsKeptIn (segment_at segments n.segment) n.number

-- the entry of a number
abbrev pub entry_at : Segmented → FileNumber → Entry
entry_at segments n = entry_in (segment_at segments n.segment) n.number

-- the same of many numbers
abbrev pub AreKept : Segmented → List FileNumber → Type 0
AreKept segments numbers = AllByRecursion (IsKept segments) numbers

abbrev pub entries_at : Segmented → List FileNumber → List Entry
entries_at segments numbers = map (entry_at segments) numbers

-- each of the old segments stands where it stood, and keeps what it kept by the same numbers
abbrev pub Keeps : Segmented → Segmented → Type 0
Keeps old new = (n : ℕ) → n < length old → (n < length new) × KeepsIn (segment_at old n) (segment_at new n)

-- the first segments are so many, and all can be numbered
pub record AreBefore (before : ℕ) (firsts kept : Segmented) : Type 0 where
  pub counted : before ≡ length firsts
  pub few : length (firsts ++ kept) < 2 ^ 32

-- the entry of a number is kept by another one where other segments stand before its own
abbrev pub StandsBehind : Segmented → Segmented → FileNumber → FileNumber → Type 0
StandsBehind firsts kept number moved = IsKept (firsts ++ kept) moved
    × (entry_at (firsts ++ kept) moved ≡ entry_at kept number)
