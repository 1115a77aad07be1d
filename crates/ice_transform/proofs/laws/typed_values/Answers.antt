use Rattle.ice_transform.proofs.Typed.{value_typed, no_value}
use Rattle.ice_transform.proofs.laws.typed_values.Goals as goal

pub returns-clause-of_source : goal.returns-clause-of_source
returns-clause-of_source c = value_typed

pub returns-clause-of_others : goal.returns-clause-of_others
returns-clause-of_others c = no_value
