use Rattle.std.proofs.Common.{◌≡◌, replicate, None}
use Rattle.ice_state.proofs.scan.pruning.none_held.Given as goal

abbrev pub invariant-loop : goal.invariant-loop
invariant-loop l = l.parts.items ≡ replicate l.counter None
