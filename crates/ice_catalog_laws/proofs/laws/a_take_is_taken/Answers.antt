use Rattle.ice_catalog_laws.proofs.Squares.{absent_where, take_state, taken_where}
use Rattle.ice_catalog_laws.proofs.laws.a_take_is_taken.Goals as goal

pub returns : goal.returns
returns c = record { taken = taken_where; state = take_state; absent = absent_where }
