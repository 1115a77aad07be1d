use Rattle.std.proofs.Common.{◌≡◌, ◌++◌, map}
use Rattle.std.specs.List.{flat_map}
use Rattle.icescan_audit_findings.specs.Examining.{file_at, findings_on}
use Rattle.icescan_audit_findings.proofs.entries.push_entries.Given as goal

abbrev pub invariant-entries : goal.invariant-entries
invariant-entries l = record {
  findings : l.findings ≡ l.fn.findings ++ flat_map (findings_on l.row) l.yielded;
  files : l.files.items ≡ l.fn.files.items ++ map (file_at l.row) l.yielded;
}
