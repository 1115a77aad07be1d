use Rattle.std.proofs.Common.{◌≡◌, ◌++◌, take, map}
use Rattle.icescan_audit_findings.specs.declared.finding.Flaw.TheVariants.{NoColumn}
use Rattle.icescan_audit_findings.specs.Findings.{missing}
use Rattle.icescan_audit_findings.proofs.flaws.push_missing.Given as goal

abbrev pub invariant-ids : goal.invariant-ids
invariant-ids l = l.flaws.items ≡ l.fn.flaws.items ++ map NoColumn (missing l.columns (take l.id-index l.ids))
