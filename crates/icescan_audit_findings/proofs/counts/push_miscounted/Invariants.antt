use Rattle.std.proofs.Common.{◌≡◌, ◌++◌, map, take}
use Rattle.icescan_audit_findings.specs.Counting.{miscounted}
use Rattle.icescan_audit_findings.specs.declared.finding.Flaw.TheVariants.{Miscounted}
use Rattle.icescan_audit_findings.proofs.counts.push_miscounted.Given as goal

abbrev pub invariant-counts : goal.invariant-counts
invariant-counts l =
    l.flaws.items ≡ l.fn.flaws.items ++ map Miscounted (miscounted l.counts l.tallies (take l.count-index l.which))
