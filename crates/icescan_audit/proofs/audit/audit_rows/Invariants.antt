use Rattle.std.proofs.Common.{◌≡◌, ◌*◌, ◌^◌, ◌≤◌, drop}
use Rattle.std.specs.Prelude.{Some, Ok}
use Rattle.icescan_audit.specs.AnyFiles.{IsReadOf}
use Rattle.icescan_audit.specs.Audits.{joined, rows_audit}
use Rattle.icescan_audit.specs.declared.audit.Reading.{Reading}
use Rattle.ice_desk.specs.Wanted.{paths_of}
use Rattle.ice_desk.specs.Worlds.{EndsAt}
use Rattle.ice_state.specs.Contents.{World}
use Rattle.icescan_text.specs.Reads.{MayEnd}
use Rattle.icescan_text.specs.declared.fault.RunFault.{RunFault}
use Rattle.icescan_audit.proofs.audit.audit_rows.Given as goal

-- what is left to audit is joined to what was audited, and ends it as it ends
abbrev pub invariant-rows : goal.invariant-rows
invariant-rows g l = record {
  found : (world : World) → g.F.Files.world l.files ≡ Some world → (left : Reading)
      → rows_audit world l.basis (drop l.row-index l.rows) ≡ Ok left
      → rows_audit world l.basis l.rows
      ≡ Ok (joined (record {
        manifests = l.row-index;
        entries = l.entries;
        findings = l.findings;
        live = l.live.items;
      }) left);
  ends : (world : World) → g.F.Files.world l.files ≡ Some world → (e : RunFault)
      → MayEnd (rows_audit world l.basis (drop l.row-index l.rows))
      (EndsAt world (g.F.Files.may_fail l.files) (paths_of (drop l.row-index l.rows))) ⊥ e
      → MayEnd (rows_audit world l.basis l.rows) (EndsAt world (g.F.Files.may_fail l.files) (paths_of l.rows)) ⊥ e;
  read : (left : Reading) → IsReadOf (g.F.Files.gives l.files) l.basis (drop l.row-index l.rows) left
      → IsReadOf (g.F.Files.gives l.files) l.basis l.rows (joined (record {
        manifests = l.row-index;
        entries = l.entries;
        findings = l.findings;
        live = l.live.items;
      }) left);
  few : l.entries ≤ l.row-index * 2 ^ 64;
}
