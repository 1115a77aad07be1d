use Rattle.std.proofs.Common.{◌≡◌, drop}
use Rattle.serde_json.specs.View.{items_view}
use Rattle.ice_meta_json.specs.Upgraded.{some_lacks}
use Rattle.ice_meta_json.proofs.upgraded.some_lacks.Given as goal

abbrev pub invariant-snapshots : goal.invariant-snapshots
invariant-snapshots l = some_lacks (items_view (drop l.snapshot-index l.snapshot-items))
    ≡ some_lacks (items_view l.snapshot-items)
