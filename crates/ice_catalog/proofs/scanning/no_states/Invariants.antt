use Rattle.std.proofs.Common.{◌≡◌, replicate, None}
use Rattle.ice_catalog.proofs.scanning.no_states.Given as goal

abbrev pub invariant-loop : goal.invariant-loop
invariant-loop l = l.states.items ≡ replicate l.counter None
