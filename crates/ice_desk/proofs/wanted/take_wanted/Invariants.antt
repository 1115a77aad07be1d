use Rattle.std.proofs.Common.{◌≡◌, ◌<◌, ℕ, Bool, true, List, Some, drop}
use Rattle.ice_state.specs.Contents.{World, HasEach, IsOf, content, is_row_taken}
use Rattle.ice_desk.specs.declared.fault.WantedFault.{WantedFault}
use Rattle.ice_desk.specs.Given.{IsGiven}
use Rattle.ice_desk.specs.Wanted.{IsContentOf, MayStop, paths_of, reads_of, untaken}
use Rattle.ice_desk.proofs.Taking.{filled}
use Rattle.ice_desk.proofs.wanted.take_wanted.Given as goal

-- the rows from i on are as they were, and those before it are taken
abbrev pub invariant-loop-i : goal.invariant-loop-i
invariant-loop-i g l = record {
  of_scan : IsOf l.scan l.state;
  behind : drop l.i l.state ≡ drop l.i l.fn.state;
  so_far : (j : ℕ) → j < l.i → is_row_taken l.state j ≡ true;
  taken : (world : World) (ts : List Bool) → g.F.Files.world l.files ≡ Some world
      → IsContentOf world l.scan l.fn.state ts → l.state ≡ content world l.scan (filled ts l.i);
  present : (world : World) → g.F.Files.world l.files ≡ Some world
      → HasEach world (untaken (drop l.i l.fn.state) (drop l.i l.scan.wanted))
      → HasEach world (untaken l.fn.state l.scan.wanted);
  ahead : (world : World) → g.F.Files.world l.files ≡ Some world → (e : WantedFault) →
      MayStop world (g.F.Files.may_fail l.files) (paths_of (untaken (drop l.i l.fn.state) (drop l.i l.scan.wanted))) e
      → MayStop world (g.F.Files.may_fail l.files) (reads_of l.scan l.fn.state) e;
  given : IsGiven (g.F.Files.gives l.files) l.scan l.fn.state → IsGiven (g.F.Files.gives l.files) l.scan l.state;
}
