-- The files of a plan, each once.
use Rattle.std.specs.Prelude.{List}
use Rattle.ice_manifest_reading.specs.declared.entry.Entry.{Entry}
use Rattle.ice_state.specs.Lines.{OwnedLine, lines_at, AreLinesOf}
use Rattle.ice_state.specs.PlaceLists.{LinePlaces}

-- data files, delete files, and for each data file the places of the delete files that apply to it
pub record PlanPlaces : Type 0 where
  pub files : List Entry
  pub deletes : List Entry
  pub places : List LinePlaces

-- the plan of these files
abbrev pub plan_of : PlanPlaces → List OwnedLine
plan_of p = lines_at p.deletes p.files p.places

-- there are places for each data file, and a delete file stands at each of them
abbrev pub ArePlaced : PlanPlaces → Type 0
ArePlaced p = AreLinesOf p.files p.deletes p.places
