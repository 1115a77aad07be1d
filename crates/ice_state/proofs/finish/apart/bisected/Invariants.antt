use Rattle.std.proofs.Common.{◌≤◌, ◌-◌, length}
use Rattle.ice_state.proofs.finish.apart.bisected.Given as goal

abbrev pub invariant-places : goal.invariant-places
invariant-places l = record {
  ordered : l.low ≤ l.high;
  within : l.high ≤ length l.files;
}

abbrev pub decreases-places : goal.decreases-places
decreases-places l = l.high - l.low
