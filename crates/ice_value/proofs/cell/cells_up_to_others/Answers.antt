use Rattle.ice_value.proofs.Orders.{up_to_itself, up_to_further, up_to_both}
use Rattle.ice_value.proofs.cell.cells_up_to_others.Goals as goal

pub returns-clause-itself : goal.returns-clause-itself
returns-clause-itself c = up_to_itself

pub returns-clause-further : goal.returns-clause-further
returns-clause-further c = up_to_further

pub returns-clause-both : goal.returns-clause-both
returns-clause-both c = up_to_both
