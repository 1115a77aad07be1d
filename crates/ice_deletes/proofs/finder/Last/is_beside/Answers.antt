use Rattle.std.proofs.Common.{sym, ◌∙◌}
use Rattle.ice_value.specs.Equality.{tuple_decides}
use Rattle.ice_deletes.proofs.finder.Last.is_beside.Goals as goal

pub returns-then-eq-clause-tuple : goal.returns-then-eq-clause-tuple
returns-then-eq-clause-tuple c t =
    (tuple_decides c.args.self.now.tuple.now c.args.tuple.now).0 (sym c.eq-then-eq.ensures ∙ t)
