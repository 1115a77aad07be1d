use Rattle.std.proofs.lemmas.List.{append-nil}
use Rattle.icescan_audit_findings.proofs.Walks.{fields_end, some_end}
use Rattle.icescan_audit_findings.proofs.fields.push_fields_flaws.Goals as goal

pub returns : goal.returns
returns c = rw (
  fields_end c.args.bounds.now c.args.fields.now c.args.tuple.now c.fields.i
      (some_end _ _ c.fields.i (rw c.min-i-end.ensures at c.fields-test.false)),
  append-nil,
) at c.fields.invariant
