use Rattle.ice_state_envelopes.proofs.Joins.{parts_are}
use Rattle.ice_state_envelopes.proofs.laws.opened_is_in_order.Goals as goal

pub returns : goal.returns
returns c = parts_are
