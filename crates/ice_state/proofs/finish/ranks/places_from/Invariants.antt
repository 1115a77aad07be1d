use Rattle.std.proofs.Common.{◌≡◌}
use Rattle.std.specs.List.{range_with_len}
use Rattle.ice_state.proofs.finish.ranks.places_from.Given as goal

abbrev pub invariant-places : goal.invariant-places
invariant-places l = l.places.items ≡ range_with_len l.first l.i
