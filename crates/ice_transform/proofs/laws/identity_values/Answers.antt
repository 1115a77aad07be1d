use Rattle.ice_transform.proofs.ValueLaws.{same_value}
use Rattle.ice_transform.proofs.laws.identity_values.Goals as goal

pub returns : goal.returns
returns c = same_value
