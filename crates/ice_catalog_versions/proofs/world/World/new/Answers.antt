use Rattle.ice_catalog_versions.proofs.Worlds.{no_entries}
use Rattle.ice_catalog_versions.proofs.world.World.new.Goals as goal

pub returns : goal.returns
returns c = rw c.new.ensures.empty no_entries
