use Rattle.std.proofs.Common.{◌≡◌, ◌∷◌, take}
use Rattle.ice_filter.proofs.predicate.Column.path.Given as goal

abbrev pub invariant-names : goal.invariant-names
invariant-names l = l.names ≡ l.self.first ∷ take l.name-index l.name-items
