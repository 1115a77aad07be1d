use Rattle.std.proofs.Common.{◌≡◌}
use Rattle.avro_schema.specs.View.{tree}
use Rattle.avro_file_picked.specs.Guides.{IsGuideFor}
use Rattle.ice_value.specs.Pairs.{counts_said}
use Rattle.ice_manifest_fields.specs.Maps.{count_of}
use Rattle.ice_manifest_values.specs.InPlace.{still}
use Rattle.ice_manifest_values.specs.Met.{pair_ids}
use Rattle.ice_manifest_values.proofs.Coming.{SoFar}
use Rattle.ice_manifest_values.proofs.pairs.each_count.Given as goal

abbrev pub invariant-items : goal.invariant-items
invariant-items l = (IsGuideFor (pair_ids l.map) (tree l.initial.items.schema.now) l.guide
    → SoFar (count_of l.map) l.initial.items l.items (counts_said l.counts.items))
    × (l.items.schema.now ≡ l.initial.items.schema.now)

abbrev pub decreases-items : goal.decreases-items
decreases-items l = still l.items
