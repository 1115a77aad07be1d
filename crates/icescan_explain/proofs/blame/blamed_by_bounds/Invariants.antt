use Rattle.std.proofs.Common.{◌≡◌, drop}
use Rattle.icescan_explain.specs.Blaming.{blamed_column}
use Rattle.icescan_explain.proofs.blame.blamed_by_bounds.Given as goal

abbrev pub invariant-predicates : goal.invariant-predicates
invariant-predicates l = blamed_column
    (drop l.predicate-index l.predicates) l.bounds ≡ blamed_column l.predicates l.bounds
