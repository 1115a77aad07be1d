use Rattle.std.proofs.Common.{◌≡◌, drop}
use Rattle.serde_json.specs.View.{items_view}
use Rattle.icescan_audit.specs.Summaries.{summary_among}
use Rattle.icescan_audit.proofs.summary.summary_among.Given as goal

-- it is among those that are left
abbrev pub invariant-snapshots : goal.invariant-snapshots
invariant-snapshots l = summary_among l.id (items_view (drop l.snapshot-index l.snapshot-items))
    ≡ summary_among l.id (items_view l.snapshot-items)
