use Rattle.std.proofs.lemmas.List.{append-nil}
use Rattle.icescan_audit_findings.proofs.Walks.{some_end, unbounded_end}
use Rattle.icescan_audit_findings.proofs.flaws.push_unbounded.Goals as goal

pub returns : goal.returns
returns c = rw (
  unbounded_end c.args.limits.now c.args.tuple.now c.fields.i
      (some_end _ _ c.fields.i (rw c.min-i-end.ensures at c.fields-test.false)),
  append-nil,
) at c.fields.invariant
