use Rattle.ice_catalog_versions.proofs.Replays.{state_after, has_earlier, in_parts}
use Rattle.ice_catalog_versions.proofs.laws.a_commit_is_one_step.Goals as goal

pub returns : goal.returns
returns c = record { step = state_after; earlier = has_earlier; parts = in_parts }
