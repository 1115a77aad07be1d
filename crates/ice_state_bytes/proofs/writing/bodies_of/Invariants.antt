use Rattle.std.proofs.Common.{take}
use Rattle.ice_state_bytes.specs.Bodies.{AreSaid}
use Rattle.ice_state_bytes.proofs.writing.bodies_of.Given as goal

abbrev pub invariant-rows : goal.invariant-rows
invariant-rows l = AreSaid l.scan 0 (take l.i l.state) l.bodies.items
