use Rattle.icescan_audit_findings.proofs.Totalled.{from_false, to_false}
use Rattle.icescan_audit_findings.proofs.laws.findings_tell_totals.Goals as goal

pub returns : goal.returns
returns c = λ files said x. (from_false files said x, to_false files said x)
