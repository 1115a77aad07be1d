use Rattle.ice_value.proofs.Orders.{itself, no_other, turned, less}
use Rattle.ice_value.proofs.cell.order_of_cells.Goals as goal

pub returns-clause-itself : goal.returns-clause-itself
returns-clause-itself c = itself

pub returns-clause-no_other : goal.returns-clause-no_other
returns-clause-no_other c = no_other

pub returns-clause-turned : goal.returns-clause-turned
returns-clause-turned c = turned

pub returns-clause-less : goal.returns-clause-less
returns-clause-less c = less
