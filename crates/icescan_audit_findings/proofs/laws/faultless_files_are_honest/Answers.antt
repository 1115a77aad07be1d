use Rattle.icescan_audit_findings.specs.Findings.{manifest_findings}
use Rattle.icescan_audit_findings.proofs.Clean.{manifest_honest, none_at_fault}
use Rattle.icescan_audit_findings.proofs.laws.faultless_files_are_honest.Goals as goal

pub returns : goal.returns
returns c = λ basis row spec tallies lives none.
    manifest_honest basis row spec tallies lives (none_at_fault (manifest_findings basis row spec tallies lives) none)
