use Rattle.std.proofs.Common.{arith}
use Rattle.ice_state_envelopes.proofs.Numbers.{nothing_put, one_more, all_put}
use Rattle.ice_state_envelopes.proofs.written.push_number.Goals as goal

pub groups-init : goal.groups-init
groups-init c = nothing_put c.args.number c.args.bytes.items (omega arith)

pub groups-preserved : goal.groups-preserved
groups-preserved c = rw c.in_ok-push.ensures.items (one_more c.args.number c.groups.rest c.args.bytes.items
    c.groups.bytes.items (omega (arith, c.groups-test.true)) c.groups.invariant)

pub returns : goal.returns
returns c = all_put c.args.number c.groups.rest c.args.bytes.items c.groups.bytes.items _ (omega arith)
    (omega (arith, c.groups-test.false)) c.groups.invariant c.in_ok-push-2.ensures.items
