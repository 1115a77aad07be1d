use Rattle.std.proofs.Common.{◌≡◌, ◌∷◌, take}
use Rattle.icescan_json.proofs.expressions.path_of.Given as goal

abbrev pub invariant-names : goal.invariant-names
invariant-names l = l.names ≡ l.column.first ∷ take l.name-index l.name-items
