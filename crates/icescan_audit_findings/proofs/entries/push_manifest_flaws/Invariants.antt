use Rattle.std.proofs.Common.{◌≡◌, ◌++◌, map}
use Rattle.icescan_audit_findings.specs.Findings.{manifest_finding}
use Rattle.icescan_audit_findings.proofs.entries.push_manifest_flaws.Given as goal

abbrev pub invariant-flaws : goal.invariant-flaws
invariant-flaws l = l.findings ≡ l.fn.findings ++ map (manifest_finding l.row) l.yielded
