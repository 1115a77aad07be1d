use Rattle.ice_transform.proofs.Means.{means}
use Rattle.ice_transform.proofs.laws.values_of_transforms.Goals as goal

pub returns : goal.returns
returns c = means
