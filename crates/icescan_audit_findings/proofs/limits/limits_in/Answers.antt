use Rattle.std.proofs.lemmas.List.{append-nil}
use Rattle.icescan_audit_findings.proofs.Walks.{limits_end, some_end}
use Rattle.icescan_audit_findings.proofs.limits.limits_in.Goals as goal

pub returns : goal.returns
returns c = rw (
  limits_end c.args.fields.now c.args.summaries.now c.fields.i
      (some_end _ _ c.fields.i (rw c.min-i-end.ensures at c.fields-test.false)),
  append-nil,
) at c.fields.invariant
