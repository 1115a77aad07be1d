use Rattle.ice_transform.proofs.ValueLaws.{rising}
use Rattle.ice_transform.proofs.laws.rising_values.Goals as goal

pub returns : goal.returns
returns c = rising
