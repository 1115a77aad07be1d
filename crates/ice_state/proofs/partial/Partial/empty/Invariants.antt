use Rattle.std.proofs.Common.{◌≡◌, replicate, None}
use Rattle.ice_state.proofs.partial.Partial.empty.Given as goal

abbrev pub invariant-loop : goal.invariant-loop
invariant-loop l = l.slots.items ≡ replicate l.counter None
