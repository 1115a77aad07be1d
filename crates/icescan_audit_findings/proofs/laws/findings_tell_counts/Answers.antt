use Rattle.icescan_audit_findings.proofs.Miscounts.{from_finding, to_finding}
use Rattle.icescan_audit_findings.proofs.laws.findings_tell_counts.Goals as goal

pub returns : goal.returns
returns c = λ basis row spec tallies lives count. (
  from_finding basis row spec tallies lives count,
  to_finding basis row spec tallies lives count,
)
