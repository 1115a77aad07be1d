use Rattle.std.proofs.Common.{◌*◌, ◌^◌, ◌≤◌, drop}
use Rattle.icescan_audit.specs.AnyFiles.{IsReadOf}
use Rattle.icescan_audit.specs.Audits.{joined}
use Rattle.icescan_audit.specs.declared.audit.Reading.{Reading}
use Rattle.icescan_audit_all.proofs.audits.take_rows.Given as goal

-- what is left to read is joined to what was read
abbrev pub invariant-rows : goal.invariant-rows
invariant-rows g l = record {
  read : (left : Reading) → IsReadOf (g.F.Files.gives l.files) l.basis (drop l.shared-index l.rows) left
      → IsReadOf (g.F.Files.gives l.files) l.basis l.rows (joined (record {
        manifests = l.shared-index;
        entries = l.entries;
        findings = l.findings;
        live = l.live.items;
      }) left);
  few : l.entries ≤ l.shared-index * 2 ^ 64;
}
