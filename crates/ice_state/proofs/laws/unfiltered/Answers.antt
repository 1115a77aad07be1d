use Rattle.ice_state.proofs.Unfiltered.{wants_known, keeps_known, plan_of_all}
use Rattle.ice_state.proofs.laws.unfiltered.Goals as goal

pub returns : goal.returns
returns c = record { rows = wants_known; entries = keeps_known; plans = plan_of_all }
