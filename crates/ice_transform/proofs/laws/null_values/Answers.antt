use Rattle.ice_transform.proofs.ValueLaws.{null_alone}
use Rattle.ice_transform.proofs.laws.null_values.Goals as goal

pub returns-clause-alone : goal.returns-clause-alone
returns-clause-alone c = null_alone
