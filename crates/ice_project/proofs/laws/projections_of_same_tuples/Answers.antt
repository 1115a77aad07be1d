use Rattle.std.proofs.Common.{ap}
use Rattle.ice_project.specs.Tuples.{part_meets}
use Rattle.ice_project.proofs.laws.projections_of_same_tuples.Goals as goal

pub returns : goal.returns
returns c = λ part tuple other same. ap (part_meets part) ((c.equality_of_cells.ensures.tuples tuple other).0 same)
