use Rattle.std.proofs.Common.{◌≡◌}
use Rattle.ice_manifest_values.specs.InPlace.{still}
use Rattle.ice_manifest_values.proofs.Coming.{SoFar}
use Rattle.ice_manifest_reading.specs.Lists.{summary_of}
use Rattle.ice_manifest_reading.proofs.summaries.each_summary.Given as goal

abbrev pub invariant-items : goal.invariant-items
invariant-items l = SoFar summary_of l.initial.items l.items l.summaries
    × (l.items.schema.now ≡ l.initial.items.schema.now)

abbrev pub decreases-items : goal.decreases-items
decreases-items l = still l.items
