use Rattle.std.proofs.Common.{◌≤◌, ◌-◌}
use Rattle.ice_state.proofs.finish.apart.place_of.Given as goal

abbrev pub invariant-steps : goal.invariant-steps
invariant-steps l = record {
  behind : l.passed ≤ l.step;
  within : l.passed ≤ l.most;
}

abbrev pub decreases-steps : goal.decreases-steps
decreases-steps l = l.most - l.step
