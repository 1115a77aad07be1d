use Rattle.std.proofs.Common.{◌≡◌, drop}
use Rattle.serde_json.specs.View.{items_view}
use Rattle.ice_meta_json.specs.Upgraded.{each_numbered}
use Rattle.ice_meta_json.proofs.Joined.{joined}
use Rattle.ice_meta_json.proofs.upgraded.each_numbered.Given as goal

abbrev pub invariant-snapshots : goal.invariant-snapshots
invariant-snapshots l =
    joined (items_view l.full.items) (each_numbered (items_view (drop l.snapshot-index l.snapshot-items)))
    ≡ each_numbered (items_view l.snapshot-items)
