use Rattle.std.proofs.Common.{◌≡◌, ◌++◌, drop}
use Rattle.icescan_audit_findings.specs.Coverage.{limits_in}
use Rattle.icescan_audit_findings.proofs.limits.limits_in.Given as goal

abbrev pub invariant-fields : goal.invariant-fields
invariant-fields l = l.limits.items ++ limits_in (drop l.i l.fields) (drop l.i l.summaries)
    ≡ limits_in l.fields l.summaries
