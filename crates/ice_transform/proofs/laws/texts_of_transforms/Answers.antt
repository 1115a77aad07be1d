use Rattle.ice_transform.proofs.Spelled.{read_back, written_back, one_transform}
use Rattle.ice_transform.proofs.laws.texts_of_transforms.Goals as goal

pub returns-clause-read_back : goal.returns-clause-read_back
returns-clause-read_back c = read_back

pub returns-clause-written_back : goal.returns-clause-written_back
returns-clause-written_back c = written_back

pub returns-clause-one : goal.returns-clause-one
returns-clause-one c = one_transform
