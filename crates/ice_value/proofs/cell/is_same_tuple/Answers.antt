use Rattle.std.proofs.lemmas.Slice.Eq.{slice_eq-Decides}
use Rattle.ice_value.specs.Equality.{cell_decides}
use Rattle.ice_value.proofs.cell.is_same_tuple.Goals as goal

pub returns-clause-same : goal.returns-clause-same
returns-clause-same c = slice_eq-Decides cell_decides c.args.tuple.now c.args.other.now c.eq.result c.eq.ensures
