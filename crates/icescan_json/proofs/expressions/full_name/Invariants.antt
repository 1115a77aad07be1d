use Rattle.std.proofs.Common.{◌≡◌, ◌++◌, ◌∷◌, drop, flat_map}
use Rattle.icescan_json.specs.Expressions.{full_name}
use Rattle.icescan_json.proofs.expressions.full_name.Given as goal

-- the name so far, and the other names
abbrev pub invariant-names : goal.invariant-names
invariant-names l = l.name.items ++ flat_map (λ name. 46 ∷ name) (drop l.more-index l.more-items) ≡ full_name l.column
