use Rattle.icescan_audit_findings.proofs.Telltale.{covered_one, none_of_one, told_of_covered, told_of_manifest}
use Rattle.icescan_audit_findings.proofs.laws.findings_tell_coverage.Goals as goal

pub returns-clause-entry : goal.returns-clause-entry
returns-clause-entry c =
    λ basis row spec l is full. (covered_one basis row spec is l full, none_of_one basis row spec is l)

pub returns-clause-manifest : goal.returns-clause-manifest
returns-clause-manifest c = λ basis row spec bytes tallies lives is has. (
  told_of_manifest c.contents_fit.ensures.cells basis row spec is bytes tallies lives has,
  told_of_covered basis row spec is tallies lives,
)
