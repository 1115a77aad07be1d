use Rattle.ice_catalog_laws.proofs.Squares.{finish_outcome}
use Rattle.ice_catalog_laws.proofs.laws.finishing_tells_the_outcome.Goals as goal

pub returns : goal.returns
returns c = finish_outcome
