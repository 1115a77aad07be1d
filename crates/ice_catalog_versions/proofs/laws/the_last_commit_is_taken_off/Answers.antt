use Rattle.ice_catalog_versions.proofs.Replays.{before_after}
use Rattle.ice_catalog_versions.proofs.laws.the_last_commit_is_taken_off.Goals as goal

pub returns : goal.returns
returns c = before_after
