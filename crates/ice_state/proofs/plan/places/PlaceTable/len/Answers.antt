use Rattle.std.proofs.Common.{ap, length, arith}
use Rattle.ice_state.proofs.PlaceTables.{length-lines_from}
use Rattle.ice_state.proofs.plan.places.PlaceTable.len.Goals as goal

pub returns-clause-counted : goal.returns-clause-counted
returns-clause-counted c = omega (
  arith,
  c.len.ensures,
  ap length c.self.view_is,
  length-lines_from 0 c.self.inside.ends.items c.self.inside.places.items,
)
