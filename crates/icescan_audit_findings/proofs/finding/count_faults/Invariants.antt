use Rattle.std.proofs.Common.{◌≡◌, ◌≤◌, length, take}
use Rattle.icescan_audit_findings.specs.Telling.{faults}
use Rattle.icescan_audit_findings.proofs.finding.count_faults.Given as goal

abbrev pub invariant-findings : goal.invariant-findings
invariant-findings l = record {
  counted : l.count ≡ length (faults (take l.finding-index l.findings));
  few : l.count ≤ l.finding-index;
}
