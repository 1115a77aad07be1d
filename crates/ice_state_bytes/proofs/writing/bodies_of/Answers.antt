use Rattle.std.proofs.Common.{◌<◌, ap, arith, length}
use Rattle.ice_state_bytes.proofs.Bodies.{said_more}
use Rattle.ice_state_bytes.proofs.writing.bodies_of.Goals as goal

pub rows-preserved : goal.rows-preserved
rows-preserved c =
    let low : c.rows.i < length c.args.state.now =
    omega (arith, c.rows-test.true, ap length c.wanted-i-end.ensures, c.requires) in
    said_more c.args.scan.now c.args.state.now c.rows.bodies.items c.push.new.self.items c.rows.i
    c.in_ok-body_of.field-0 low c.rows.invariant c.in_ok-body_of.ensures.said c.in_ok-push.ensures.items
