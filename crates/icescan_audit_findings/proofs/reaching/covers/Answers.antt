use Rattle.std.proofs.Common.{sym, ◌∙◌}
use Rattle.ice_value.specs.Equality.{tuple_decides}
use Rattle.icescan_audit_findings.proofs.reaching.covers.Goals as goal

pub returns-then-le-clause-tuple : goal.returns-then-le-clause-tuple
returns-then-le-clause-tuple c t =
    (tuple_decides c.args.one.now.key.now.tuple c.args.other.now.key.now.tuple).0 (sym c.eq.ensures ∙ t)
