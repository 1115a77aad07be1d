use Rattle.ice_value.proofs.Deletes.{applies-decides}
use Rattle.ice_value.proofs.applying.applying_of_deletes.Goals as goal

pub returns : goal.returns
returns c = applies-decides
