use Rattle.std.proofs.Common.{◌≡◌, map, take}
use Rattle.std.specs.List.{All}
use Rattle.ice_meta.specs.Targets.{described}
use Rattle.icescan_audit_all.specs.Snapshots.{IsFound}
use Rattle.icescan_audit_all.specs.declared.audits.SnapshotAudit.{SnapshotAudit}
use Rattle.icescan_audit_all.specs.declared.listed.Listed.{Listed}
use Rattle.icescan_audit_all.proofs.audits.audit_each.Given as goal

abbrev pub invariant-listed : goal.invariant-listed
invariant-listed g l = record {
  read : All (IsFound (g.F.Files.gives l.files) (described l.metadata.json l.metadata.table)) l.audits.items;
  each : map (λ (a : SnapshotAudit). a.snapshot) l.audits.items
      ≡ map (λ (x : Listed). x.snapshot) (take l.each-index l.listed);
}
