-- Stretches of alike files. No public contract cites these words.
use Rattle.std.specs.Prelude.{ℕ, ◌<◌, ◌≤◌, List, length, slice_index_or}
use Rattle.ice_manifest_reading.specs.declared.entry.Entry.{Entry}
use Rattle.ice_state_entries.specs.Alike.{AreAlike}
use Rattle.ice_state_entries.specs.Kept.{no_entry}
use Rattle.ice_state.specs.declared.kept.segments.FileNumber.{FileNumber}
use Rattle.ice_state.specs.Segments.{Segmented, entries_at}

-- the entries from one place to another are like the first of them
abbrev pub AreLikeFirst : List Entry → ℕ → ℕ → Type 0
AreLikeFirst entries first end =
    (i : ℕ) → first < i → i < end →
    AreAlike (slice_index_or entries first no_entry) (slice_index_or entries i no_entry)

-- the files from one place to another are like the first of them
pub record IsStretch (segments : Segmented) (files : List FileNumber) (first end : ℕ) : Type 0 where
  pub after : first < end
  pub within : end ≤ length files
  pub alike : AreLikeFirst (entries_at segments files) first end

-- a file at a place before another, and like that one
abbrev pub IsLikeBefore : Segmented → List FileNumber → ℕ → ℕ → Type 0
IsLikeBefore segments files place i =
    (i < place) ×
    AreAlike (slice_index_or (entries_at segments files) i no_entry)
    (slice_index_or (entries_at segments files) place no_entry)
