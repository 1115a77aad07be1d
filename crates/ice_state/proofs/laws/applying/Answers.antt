use Rattle.ice_state.proofs.Planned.{applies-decides}
use Rattle.ice_state.proofs.laws.applying.Goals as goal

pub returns : goal.returns
returns c = applies-decides
