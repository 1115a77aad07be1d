use Rattle.ice_state.proofs.Planned.{files_of, positions_of, equalities_of}
use Rattle.ice_state.proofs.laws.planning.Goals as goal

pub returns : goal.returns
returns c = record { files = files_of; positions = positions_of; equalities = equalities_of }
