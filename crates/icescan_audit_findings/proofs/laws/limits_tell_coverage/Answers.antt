use Rattle.icescan_audit_findings.proofs.CoverageLaws.{covered_by, covers, covers_back, none_by}
use Rattle.icescan_audit_findings.proofs.laws.limits_tell_coverage.Goals as goal

pub returns-clause-value : goal.returns-clause-value
returns-clause-value c = λ field summary value. (covers field summary value, covers_back field summary value)

pub returns-clause-entry : goal.returns-clause-entry
returns-clause-entry c =
    λ spec summaries tuple full. (covered_by spec summaries tuple full, none_by spec summaries tuple)
