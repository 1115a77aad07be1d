use Rattle.std.proofs.Common.{◌≡◌, ◌++◌, drop, map}
use Rattle.icescan_audit_findings.specs.declared.finding.FieldFlaw.TheVariants.{Unbounded}
use Rattle.icescan_audit_findings.specs.declared.finding.Flaw.TheVariants.{OfField}
use Rattle.icescan_audit_findings.specs.Coverage.{unbounded}
use Rattle.icescan_audit_findings.proofs.flaws.push_unbounded.Given as goal

abbrev pub invariant-fields : goal.invariant-fields
invariant-fields l = l.flaws.items ++ map (OfField Unbounded) (unbounded (drop l.i l.limits) (drop l.i l.tuple))
    ≡ l.fn.flaws.items ++ map (OfField Unbounded) (unbounded l.limits l.tuple)
