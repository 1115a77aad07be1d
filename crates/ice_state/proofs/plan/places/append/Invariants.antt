use Rattle.std.proofs.Common.{◌≡◌, ◌++◌, take}
use Rattle.ice_state.specs.PlaceLists.{places_at}
use Rattle.ice_state.proofs.plan.places.append.Given as goal

abbrev pub invariant-numbers : goal.invariant-numbers
invariant-numbers l = l.places.items ≡ l.initial.places.items ++ places_at l.ranks (take l.n-index l.numbers)
