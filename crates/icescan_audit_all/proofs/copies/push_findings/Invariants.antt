use Rattle.std.proofs.Common.{◌≡◌, ◌++◌, take}
use Rattle.icescan_audit_all.proofs.copies.push_findings.Given as goal

abbrev pub invariant-findings : goal.invariant-findings
invariant-findings l = l.findings ≡ l.fn.findings ++ take l.finding-index l.more
