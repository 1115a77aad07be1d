use Rattle.ice_state_envelopes.proofs.Joins.{tree_bodies}
use Rattle.ice_state_envelopes.proofs.laws.trees_of_joins.Goals as goal

pub returns : goal.returns
returns c = tree_bodies
