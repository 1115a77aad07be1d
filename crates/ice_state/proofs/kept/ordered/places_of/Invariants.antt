use Rattle.std.proofs.Common.{◌≡◌, take, map}
use Rattle.ice_state.specs.Placed.{place_of}
use Rattle.ice_state.proofs.kept.ordered.places_of.Given as goal

abbrev pub invariant-placed : goal.invariant-placed
invariant-placed l = l.places.items ≡ map place_of (take l.p-index l.placed)
