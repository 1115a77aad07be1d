use Rattle.ice_value.proofs.RoundTrip.{read_back}
use Rattle.ice_value.proofs.bound.single_values.Goals as goal

pub returns-clause-read_back : goal.returns-clause-read_back
returns-clause-read_back c = read_back
