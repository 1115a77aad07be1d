use Rattle.std.proofs.Common.{arith}
use Rattle.ice_state.proofs.SharedLines.{has_lines}
use Rattle.ice_state.proofs.plan.shared_places.SharedPlaces.len.Goals as goal

pub returns-clause-counted : goal.returns-clause-counted
returns-clause-counted c = omega (
  arith,
  c.len.ensures,
  has_lines c.self.inside.lists c.self.inside.lines.items c.args.self.now c.self.view_is,
)
