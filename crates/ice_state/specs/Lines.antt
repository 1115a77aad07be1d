-- The lines of a plan, and how a plan keeps them.
use Rattle.std.specs.Prelude.{◌≡◌, ℕ, ◌<◌, zero, suc, List, [], ◌∷◌, length, Option, option_map, slice_get}
use Rattle.std.specs.List.{flat_map, AllByRecursion}
use Rattle.ice_manifest_reading.specs.declared.entry.Entry.{Entry}
use Rattle.ice_state.specs.declared.plan.lines.Files.{Files}
use Rattle.ice_state.specs.PlaceLists.{LinePlaces}
use Rattle.ice_state.specs.declared.plan.NumberedPlan.{NumberedPlan}
use Rattle.ice_state.specs.Segments.{Segmented, AreKept, entries_at as kept_at}

-- a data file, and by path the position delete files and the equality delete files that apply to it
pub record OwnedLine : Type 0 where
  pub file : Entry
  pub positions : List Entry
  pub equalities : List Entry

-- the delete files that apply to the data file at a place, where there is one
abbrev pub deletes_at : List OwnedLine → ℕ → Option (List Entry × List Entry)
deletes_at lines i = option_map (λ (l : OwnedLine). (l.positions, l.equalities)) (slice_get lines i)

-- no delete file applies to the data file
abbrev pub LacksDeletes : OwnedLine → Type 0
LacksDeletes line = (line.positions ≡ []) × (line.equalities ≡ [])

-- the entries of a plan's files
abbrev pub entries_of : Files → List Entry
entries_of files = kept_at files.entries.now files.numbers.now

abbrev pub AreFiles : Files → Type 0
AreFiles files = AreKept files.entries.now files.numbers.now

-- the entry at a place, where there is one
abbrev pub entry_at : List Entry → ℕ → List Entry
entry_at [] i = []
entry_at (x ∷ xs) zero = x ∷ []
entry_at (x ∷ xs) (suc i) = entry_at xs i

-- the entries at these places
abbrev pub entries_at : List Entry → List ℕ → List Entry
entries_at entries places = flat_map (entry_at entries) places

-- a data file with the delete files at these places
abbrev pub line_at : List Entry → Entry → LinePlaces → OwnedLine
line_at deletes x places = record {
  file = x;
  positions = entries_at deletes places.positions;
  equalities = entries_at deletes places.equalities;
}

abbrev pub lines_at : List Entry → List Entry → List LinePlaces → List OwnedLine
lines_at deletes [] places = []
lines_at deletes (x ∷ xs) [] = []
lines_at deletes (x ∷ xs) (p ∷ ps) = line_at deletes x p ∷ lines_at deletes xs ps

-- each of these places is one of n
abbrev pub AreWithin : ℕ → List ℕ → Type 0
AreWithin n places = AllByRecursion (λ i. i < n) places

abbrev pub IsLineWithin : ℕ → LinePlaces → Type 0
IsLineWithin n places = AreWithin n places.positions × AreWithin n places.equalities

-- a place for each data file, each of them within the delete files
pub record AreLinesOf (files deletes : List Entry) (places : List LinePlaces) : Type 0 where
  pub each : length places ≡ length files
  pub within : AllByRecursion (IsLineWithin (length deletes)) places

-- the lines of a plan by numbers
abbrev pub lines_of : Segmented → NumberedPlan → List OwnedLine
lines_of kept plan = lines_at (kept_at kept plan.deletes.items) (kept_at kept plan.files.items) plan.places

pub record IsPlanned (kept : Segmented) (plan : NumberedPlan) : Type 0 where
  pub files : AreKept kept plan.files.items
  pub deletes : AreKept kept plan.deletes.items
  pub lines : AreLinesOf (kept_at kept plan.files.items) (kept_at kept plan.deletes.items) plan.places
