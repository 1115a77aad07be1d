use Rattle.ice_value.specs.Equality.{cell_decides, tuple_decides}
use Rattle.ice_value.proofs.cell.equality_of_cells.Goals as goal

pub returns-clause-cells : goal.returns-clause-cells
returns-clause-cells c = cell_decides

pub returns-clause-tuples : goal.returns-clause-tuples
returns-clause-tuples c = tuple_decides
