use Rattle.std.proofs.Common.{◌≡◌, ◌++◌, drop, map}
use Rattle.icescan_audit_findings.specs.declared.finding.Flaw.TheVariants.{Uncovered}
use Rattle.icescan_audit_findings.specs.Coverage.{outside}
use Rattle.icescan_audit_findings.proofs.flaws.push_uncovered.Given as goal

abbrev pub invariant-fields : goal.invariant-fields
invariant-fields l = l.flaws.items ++ map Uncovered (outside (drop l.i l.limits) (drop l.i l.tuple))
    ≡ l.fn.flaws.items ++ map Uncovered (outside l.limits l.tuple)
