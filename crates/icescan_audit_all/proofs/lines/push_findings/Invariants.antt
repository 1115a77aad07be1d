use Rattle.std.proofs.Common.{◌≡◌, ◌++◌, [], map, take}
use Rattle.icescan_audit_all.specs.Lines.{finding_line}
use Rattle.icescan_audit_all.proofs.lines.push_findings.Given as goal

abbrev pub invariant-findings : goal.invariant-findings
invariant-findings l = record {
  lines : l.lines.items ≡ l.fn.lines.items ++ map (finding_line l.form l.snapshot) (take l.finding-index l.findings);
  page : l.page ≡ [];
}
