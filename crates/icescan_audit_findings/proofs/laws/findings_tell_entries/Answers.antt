use Rattle.icescan_audit_findings.proofs.Unlike.{from_finding, from_rows, to_finding, to_rows}
use Rattle.icescan_audit_findings.proofs.laws.findings_tell_entries.Goals as goal

pub returns-clause-entries : goal.returns-clause-entries
returns-clause-entries c = λ basis row spec tallies lives path flaw. (
  from_finding basis row spec tallies lives path flaw,
  to_finding basis row spec tallies lives path flaw,
)

pub returns-clause-rows : goal.returns-clause-rows
returns-clause-rows c = λ basis row file flaw. (from_rows basis row file flaw, to_rows basis row file flaw)
