use Rattle.std.proofs.Common.{◌≡◌, ◌++◌, map}
use Rattle.icescan_audit_findings.specs.Examining.{finding_at}
use Rattle.icescan_audit_findings.proofs.entries.push_file_flaws.Given as goal

abbrev pub invariant-flaws : goal.invariant-flaws
invariant-flaws l = l.findings ≡ l.fn.findings ++ map (finding_at l.row l.file) l.yielded
