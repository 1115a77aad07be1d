use Rattle.ice_state.proofs.Covered.{kept_wanted_of}
use Rattle.ice_state.proofs.laws.covering.Goals as goal

pub returns : goal.returns
returns c = kept_wanted_of
