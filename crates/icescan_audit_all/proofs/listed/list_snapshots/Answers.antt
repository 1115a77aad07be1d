use Rattle.std.proofs.Common.{◌∙◌, rules}
use Rattle.std.proofs.lemmas.List.Elements.{All-push}
use Rattle.ice_meta.specs.Targets.{described}
use Rattle.ice_meta.specs.declared.snapshot.Snapshot.{Snapshot}
use Rattle.icescan_audit_all.specs.Snapshots.{IsListed}
use Rattle.icescan_audit_all.specs.declared.listed.Listed.{Listed}
use Rattle.icescan_audit_all.proofs.Bases.{ids_more}
use Rattle.icescan_audit_all.proofs.listed.list_snapshots.Goals as goal

pub snapshots-preserved : goal.snapshots-preserved
snapshots-preserved g c =
    let d = described c.args.metadata.now.json c.args.metadata.now.table in
    let next = c.in_ok-next.next in
    rw c.in_ok-push.ensures.items (record {
      given = All-push (IsListed (g.F.Files.gives c.args.files.now) d) c.snapshots.listed.items next
          c.snapshots.invariant.given c.in_ok-next.ensures.given.0;
      each = ids_more (λ (l : Listed). l.snapshot) (λ (s : Snapshot). s.id) c.snapshots.listed.items next _
          c.snapshots.snapshot-index c.snapshot-item.result c.snapshots-test.true c.snapshot-item.is
          c.snapshots.invariant.each (c.in_ok-next.ensures.given.1 ∙ search rules);
    })
