use Rattle.ice_manifest_fields.specs.Fields.{int_item}
use Rattle.ice_manifest_values.specs.InPlace.{still}
use Rattle.ice_manifest_values.proofs.Coming.{SoFar}
use Rattle.ice_manifest_values.proofs.list.each_int.Given as goal

abbrev pub invariant-items : goal.invariant-items
invariant-items l = SoFar (int_item l.id) l.initial.items l.items l.ids

abbrev pub decreases-items : goal.decreases-items
decreases-items l = still l.items
