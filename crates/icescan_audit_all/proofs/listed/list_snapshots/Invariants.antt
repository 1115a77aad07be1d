use Rattle.std.proofs.Common.{◌≡◌, map, take}
use Rattle.std.specs.List.{All}
use Rattle.ice_meta.specs.Targets.{described}
use Rattle.ice_meta.specs.declared.snapshot.Snapshot.{Snapshot}
use Rattle.icescan_audit_all.specs.Snapshots.{IsListed}
use Rattle.icescan_audit_all.specs.declared.listed.Listed.{Listed}
use Rattle.icescan_audit_all.proofs.listed.list_snapshots.Given as goal

abbrev pub invariant-snapshots : goal.invariant-snapshots
invariant-snapshots g l = record {
  given : All (IsListed (g.F.Files.gives l.files) (described l.metadata.json l.metadata.table)) l.listed.items;
  each : map (λ (x : Listed). x.snapshot) l.listed.items
      ≡ map (λ (s : Snapshot). s.id) (take l.snapshot-index l.snapshots);
}
