use Rattle.std.proofs.Common.{◌∙◌, ap}
use Rattle.serde_json.specs.View.{items_view}
use Rattle.ice_meta_json.specs.Upgraded.{each_numbered}
use Rattle.ice_meta_json.proofs.Joined.{numbered_on, numbered_over}
use Rattle.ice_meta_json.proofs.upgraded.each_numbered.Goals as goal

pub snapshots-preserved : goal.snapshots-preserved
snapshots-preserved c =
    rw c.in_ok-push.ensures.ok (numbered_on c.deref-snapshot-items.result.now c.snapshots.snapshot-index
    c.snapshot-item.result c.snapshots.full.items c.in_ok-numbered.field-0 _ c.snapshots-test.true c.snapshot-item.is
    c.in_ok-numbered.ensures c.snapshots.invariant)

pub returns : goal.returns
returns c =
    numbered_over c.deref-snapshot-items.result.now c.snapshots.snapshot-index _ _ c.snapshots-test.false
    c.snapshots.invariant
    ∙ ap (λ vs. each_numbered (items_view vs)) c.deref-snapshot-items.ensures.value
