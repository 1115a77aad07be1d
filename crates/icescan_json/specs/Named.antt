-- The delete files that the JSON of a plan lists: those that a task names.
use Rattle.std.specs.Prelude.{◌<◌, ℕ, zero, suc, Bool, true, false, cond, List, [], ◌∷◌, ◌++◌}
use Rattle.std.specs.Prelude.{Any, Contains, length, map, replicate, set}
use Rattle.ice_manifest_reading.specs.declared.entry.Entry.{Entry}
use Rattle.ice_state.specs.PlaceLists.{LinePlaces}
use Rattle.ice_state.specs.PlacedFiles.{PlanPlaces}

-- one of the references of a task is the delete file at this place in the list
abbrev pub RefersTo : ℕ → LinePlaces → Type 0
RefersTo n task = Contains (task.positions ++ task.equalities) n

-- a task refers to each delete file of the list
abbrev pub AreNamed : PlanPlaces → Type 0
AreNamed p = (n : ℕ) → n < length p.deletes → Any (RefersTo n) p.places

-- ---- pieces of it; no public contract cites these words

-- marked too: these places
abbrev pub with_marks : List ℕ → List Bool → List Bool
with_marks [] marks = marks
with_marks (n ∷ ns) marks = with_marks ns (set marks n true)

-- marked too: the places of these lines
abbrev pub with_lines : List LinePlaces → List Bool → List Bool
with_lines [] marks = marks
with_lines (line ∷ lines) marks = with_lines lines (with_marks line.equalities (with_marks line.positions marks))

-- of each delete file, whether a task names it
abbrev pub marks_of : PlanPlaces → List Bool
marks_of p = with_lines p.places (replicate (length p.deletes) false)

-- how many before this place are marked
abbrev pub rank : List Bool → ℕ → ℕ
rank [] n = zero
rank (mark ∷ marks) zero = zero
rank (mark ∷ marks) (suc n) = cond mark (suc (rank marks n)) (rank marks n)

-- the same of each place, where so many stand before the first one
abbrev pub ranks_from : ℕ → List Bool → List ℕ
ranks_from n [] = []
ranks_from n (mark ∷ marks) = n ∷ ranks_from (cond mark (suc n) n) marks

abbrev pub ranks_of : List Bool → List ℕ
ranks_of marks = ranks_from 0 marks

-- the entries whose places are marked
abbrev pub marked : List Bool → List Entry → List Entry
marked [] xs = []
marked (mark ∷ marks) [] = []
marked (true ∷ marks) (x ∷ xs) = x ∷ marked marks xs
marked (false ∷ marks) (x ∷ xs) = marked marks xs

-- a line whose places are those among the marked entries
abbrev pub moved : List Bool → LinePlaces → LinePlaces
moved marks line = record {
  positions = map (rank marks) line.positions;
  equalities = map (rank marks) line.equalities;
}

-- a plan's files, of the delete files those that are marked alone
abbrev pub narrowed : List Bool → PlanPlaces → PlanPlaces
narrowed marks p = record {
  files = p.files;
  deletes = marked marks p.deletes;
  places = map (moved marks) p.places;
}
