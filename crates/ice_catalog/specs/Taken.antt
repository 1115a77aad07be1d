-- Which rows the states of a scan's workers have, and that they have what the scanned version's files hold.
use Rattle.std.specs.Prelude.{◌≡◌, Bool, List, map, Option, Some, None, is_some}
use Rattle.std.specs.List.{All}
use Rattle.ice_state.specs.Contents.{Content, IsOf, World, content, no_row}
use Rattle.ice_state.specs.Scans.{Scanned}

-- the set of the rows that a content has
abbrev pub rows_of : Content → List Bool
rows_of c = map is_some c

-- a worker that took nothing may have no state yet
abbrev pub set_of : Scanned → Option Content → List Bool
set_of scan None = no_row scan
set_of scan (Some c) = rows_of c

abbrev pub sets_of : Scanned → List (Option Content) → List (List Bool)
sets_of scan states = map (set_of scan) states

-- the state is of the scan
abbrev pub IsStateOf : Scanned → Option Content → Type 0
IsStateOf scan None = Unit {0}
IsStateOf scan (Some c) = IsOf scan c

abbrev pub AreStatesOf : Scanned → List (Option Content) → Type 0
AreStatesOf scan states = All (IsStateOf scan) states

-- the state is of the scan, and has what the files hold of its rows
abbrev pub IsTaken : World → Scanned → Option Content → Type 0
IsTaken world scan None = Unit {0}
IsTaken world scan (Some c) = IsOf scan c × (c ≡ content world scan (rows_of c))

abbrev pub AreTaken : World → Scanned → List (Option Content) → Type 0
AreTaken world scan states = All (IsTaken world scan) states
