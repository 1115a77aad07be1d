use Rattle.std.proofs.Common.{◌≡◌, ◌+◌, ◌<◌, ◌≤◌, ◌-◌, ◌++◌, ℕ, true, false, List, drop, filter, length, take}
use Rattle.std.specs.Prelude.{Some, Ok}
use Rattle.ice_desk.specs.Given.{IsGiven}
use Rattle.ice_desk.specs.Wanted.{paths_of}
use Rattle.ice_desk.specs.Worlds.{EndsAt}
use Rattle.ice_state.specs.Contents.{IsOf, World, content, is_row_taken}
use Rattle.icescan_text.specs.Reads.{MayEnd, all_present}
use Rattle.icescan_text.specs.declared.fault.RunFault.{RunFault}
use Rattle.ice_state.specs.Outcomes.{kept_in}
use Rattle.icescan_explain.specs.declared.verdict.Verdict.{Verdict}
use Rattle.icescan_explain.specs.RowsTold.{AreToldOf, is_wanted, rows_told}
use Rattle.icescan_explain.specs.Told.{paths_kept, paths_of_data}
use Rattle.icescan_explain.specs.ToldRanges.{between, wanted_of}
use Rattle.icescan_explain.proofs.manifests.tell_rows.Given as goal

-- so many of the wanted rows are among those before this one, and are taken; what is left to tell ends the run as all
-- rows do
abbrev pub invariant-rows : goal.invariant-rows
invariant-rows g l = (k : ℕ) × record {
  place : l.next ≡ l.first + k;
  few : k ≤ l.row-index;
  within : k ≤ length (wanted_of l.tests l.rows);
  of_scan : IsOf l.scan l.state;
  rest : drop k (wanted_of l.tests l.rows) ≡ filter (is_wanted l.tests) (drop l.row-index l.rows);
  told : (world : World) → g.F.Files.world l.files ≡ Some world
      → l.verdicts.items ≡ rows_told l.tests world (take l.row-index l.rows);
  taken : (world : World) → g.F.Files.world l.files ≡ Some world
      → l.state ≡ content world l.scan (between l.first k (length l.scan.wanted - (l.first + k)));
  ends : (world : World) → g.F.Files.world l.files ≡ Some world → (e : RunFault)
      → MayEnd (all_present world (drop k (wanted_of l.tests l.rows)))
      (EndsAt world (g.F.Files.may_fail l.files) (paths_of (drop k (wanted_of l.tests l.rows)))) ⊥ e
      → MayEnd (all_present world (wanted_of l.tests l.rows))
      (EndsAt world (g.F.Files.may_fail l.files) (paths_of (wanted_of l.tests l.rows))) ⊥ e;
  present : (world : World) → g.F.Files.world l.files ≡ Some world
      → all_present world (drop k (wanted_of l.tests l.rows)) ≡ Ok tt
      → all_present world (wanted_of l.tests l.rows) ≡ Ok tt;
  read : (left : List Verdict) → AreToldOf (g.F.Files.gives l.files) l.tests (drop l.row-index l.rows) left
      → AreToldOf (g.F.Files.gives l.files) l.tests l.rows (l.verdicts.items ++ left);
  kept : paths_kept l.verdicts.items ≡ paths_of_data (kept_in l.state);
  given : IsGiven (g.F.Files.gives l.files) l.scan l.state;
  each : (j : ℕ) → l.first ≤ j → j < l.next → is_row_taken l.state j ≡ true;
  before : (j : ℕ) → j < l.first → is_row_taken l.state j ≡ false;
  behind : (j : ℕ) → l.next ≤ j → is_row_taken l.state j ≡ false;
}
