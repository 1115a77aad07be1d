use Rattle.ice_state.proofs.Pruned.{kept_wanted, pruned}
use Rattle.ice_state.proofs.laws.pruning.Goals as goal

pub returns : goal.returns
returns c = record { same_entries = kept_wanted; plans = pruned }
