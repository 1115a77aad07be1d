use Rattle.ice_manifest_reading.proofs.Collected.{behind_none}
use Rattle.ice_manifest_reading.proofs.manifest.read_kept.Goals as goal

pub returns : goal.returns
returns g c = behind_none _ _ _ c.new.ensures.items c.in_ok-read_into.ensures.gathered
