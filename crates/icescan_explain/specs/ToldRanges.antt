-- What telling of some rows of a scan answers, which are neighbours in the order of their paths.
use Rattle.std.specs.Prelude.{◌≡◌, ◌+◌, ◌-◌, ◌<◌, ◌≤◌, ℕ, Bool, true, false, List, ◌++◌, drop, filter, length}
use Rattle.std.specs.Prelude.{replicate, Option, Some, None, Result, Ok, IfOk, IfErr, IsErrOf}
use Rattle.ice_desk.specs.Given.{Giving, IsGiven}
use Rattle.ice_desk.specs.Wanted.{paths_of}
use Rattle.ice_desk.specs.Worlds.{EndsAt, HasAt}
use Rattle.ice_manifest_reading.specs.declared.row.Row.{Row}
use Rattle.ice_state.specs.Contents.{IsOf, World, content, is_row_taken}
use Rattle.ice_state.specs.Outcomes.{kept_in}
use Rattle.ice_state.specs.Scans.{Scanned}
use Rattle.icescan_text.specs.Reads.{MayEnd, all_present}
use Rattle.icescan_text.specs.declared.fault.RunFault.{RunFault}
use Rattle.icescan_text.specs.declared.fault.RunFault.TheVariants as run
use Rattle.icescan_explain.specs.RowsTold.{AreToldOf, is_wanted, rows_told}
use Rattle.icescan_explain.specs.Told.{paths_kept, paths_of_data}
use Rattle.icescan_explain.specs.declared.by_workers.ToldRows.{ToldRows}
use Rattle.icescan_explain.specs.declared.tests.FilterTests.{FilterTests}

-- the rows that are wanted, and how many they are
abbrev pub wanted_of : FilterTests → List Row → List Row
wanted_of tests rows = filter (is_wanted tests) rows

abbrev pub count_of : FilterTests → List Row → ℕ
count_of tests rows = length (wanted_of tests rows)

-- the wanted ones of these rows stand in the scan from a place on
abbrev pub AreWantedFrom : FilterTests → Scanned → ℕ → List Row → Type 0
AreWantedFrom tests scan first rows = (others : List Row)
    × (drop first scan.wanted ≡ wanted_of tests rows ++ others) × (first ≤ length scan.wanted)

-- the set of so many rows, with so many before and behind them
abbrev pub between : ℕ → ℕ → ℕ → List Bool
between before count behind = replicate before false ++ (replicate count true ++ replicate behind false)

-- This was told of rows, of which the wanted ones stand in the scan from a place on: those are taken, and no others.
pub record AreTold (world_told : Option World) (gives : Giving) (tests : FilterTests) (scan : Scanned) (first : ℕ)
    (rows : List Row) (x : ToldRows) : Type 0 where
  pub of_scan : IsOf scan x.state
  pub each : (j : ℕ) → first ≤ j → j < first + count_of tests rows → is_row_taken x.state j ≡ true
  pub before : (j : ℕ) → j < first → is_row_taken x.state j ≡ false
  pub behind : (j : ℕ) → first + count_of tests rows ≤ j → is_row_taken x.state j ≡ false
  -- over files that tell their world
  pub told : (world : World) → world_told ≡ Some world → x.verdicts ≡ rows_told tests world rows
  pub taken : (world : World) → world_told ≡ Some world → x.state ≡ content world scan
      (between first (count_of tests rows) (length scan.wanted - (first + count_of tests rows)))
  pub present : (world : World) → world_told ≡ Some world → all_present world (wanted_of tests rows) ≡ Ok tt
  -- over all files
  pub read : AreToldOf gives tests rows x.verdicts
  pub kept : paths_kept x.verdicts ≡ paths_of_data (kept_in x.state)
  pub given : IsGiven gives scan x.state

-- The answer of telling of them: that, or the first refusal.
pub record TellsRows (told : Option World) (may_fail : List ℕ → Type 0) (gives : Giving) (tests : FilterTests)
    (scan : Scanned) (first : ℕ) (rows : List Row) (result : Result ToldRows RunFault) : Type 0 where
  pub all : IfOk result (AreTold told gives tests scan first rows)
  pub refused : (world : World) → told ≡ Some world →
      IfErr result (MayEnd (all_present world (wanted_of tests rows))
      (EndsAt world may_fail (paths_of (wanted_of tests rows))) ⊥)
  -- over all files
  pub absent : (path : List ℕ) → IsErrOf result (run.Absent path) → HasAt told path None
  pub device : (path : List ℕ) → IsErrOf result (run.Device path) → may_fail path
  pub write : IsErrOf result run.Write → ⊥
