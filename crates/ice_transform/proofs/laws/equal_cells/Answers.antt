use Rattle.std.proofs.Common.{ap}
use Rattle.ice_value.proofs.Orders.{no_other}
use Rattle.ice_transform.specs.Values.{value_of}
use Rattle.ice_transform.proofs.laws.equal_cells.Goals as goal

pub returns : goal.returns
returns c = λ f t a b h. ap (value_of f t) (no_other a b h)
