use Rattle.ice_state.proofs.Covered.{covered_without_fields}
use Rattle.ice_state.proofs.laws.covering_without_fields.Goals as goal

pub returns : goal.returns
returns c = covered_without_fields
