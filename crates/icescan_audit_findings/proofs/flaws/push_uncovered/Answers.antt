use Rattle.std.proofs.lemmas.List.{append-nil}
use Rattle.icescan_audit_findings.proofs.Walks.{outside_end, some_end}
use Rattle.icescan_audit_findings.proofs.flaws.push_uncovered.Goals as goal

pub returns : goal.returns
returns c = rw (
  outside_end c.args.limits.now c.args.tuple.now c.fields.i
      (some_end _ _ c.fields.i (rw c.min-i-end.ensures at c.fields-test.false)),
  append-nil,
) at c.fields.invariant
