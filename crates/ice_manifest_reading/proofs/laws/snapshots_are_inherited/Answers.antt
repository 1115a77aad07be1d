use Rattle.ice_manifest_reading.proofs.Said.{keeps_its_snapshot, inherits_its_snapshot}
use Rattle.ice_manifest_reading.proofs.laws.snapshots_are_inherited.Goals as goal

pub returns : goal.returns
returns c = record { own = keeps_its_snapshot; none = inherits_its_snapshot }
