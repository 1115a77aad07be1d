use Rattle.std.proofs.Common.{◌≤◌, ◌-◌, length}
use Rattle.ice_state.specs.Apart.{IsRun}
use Rattle.ice_state.specs.Segments.{entries_at}
use Rattle.ice_state.proofs.finish.apart.end_in_gap.Given as goal

abbrev pub invariant-steps : goal.invariant-steps
invariant-steps l = record {
  step : 1 ≤ l.step;
  run : IsRun (entries_at l.entries l.files) (entries_at l.entries l.some) l.first l.gap l.end;
}

abbrev pub decreases-steps : goal.decreases-steps
decreases-steps l = length l.some - l.end
