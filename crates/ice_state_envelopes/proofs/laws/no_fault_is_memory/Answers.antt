use Rattle.ice_state_envelopes.proofs.Faults.{parts_never, joined_never}
use Rattle.ice_state_envelopes.proofs.laws.no_fault_is_memory.Goals as goal

pub returns : goal.returns
returns c = record { opening = parts_never; joining = joined_never }
