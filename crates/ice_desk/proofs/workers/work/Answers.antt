use Rattle.std.proofs.Common.{◌<◌, length, arith, sym, subst}
use Rattle.ice_desk.specs.Works.{Worked}
use Rattle.ice_desk.proofs.Works.{began, served_one, ended, few_counted, index_below, left_few}
use Rattle.ice_desk.proofs.workers.work.Goals as goal

pub loop-i-init : goal.loop-i-init
loop-i-init g c = record {
  seat = c.requires.seat;
  of_scan = c.requires.state;
  small = rw c.none-left.ensures (omega arith);
  worked = subst (Worked (g.F.Files.world c.args.files.now) (g.F.Files.may_fail c.args.files.now) c.args.desk.now
      c.args.scan.now c.args.seat.now c.args.seat.now c.args.state.now c.args.state.now)
      (sym c.none-left.ensures) (began _ _ _ _ _ _ c.requires.state);
  given = λ h. h;
}

pub loop-i-preserved : goal.loop-i-preserved
loop-i-preserved g c =
    let drew = c.in-Index.ensures.claims.1 in
    let inside : c.in-Index.i < length c.loop-i.state = omega (
      arith,
      index_below c.args.desk.now drew.0 c.in-Index.i
          drew.2 drew.3,
      c.loop-i.invariant.of_scan,
      c.requires.desk,
    ) in
    let one = served_one (g.F.Files.world c.args.files.now) (g.F.Files.may_fail c.args.files.now) c.args.desk.now
    c.args.scan.now c.args.seat.now c.args.state.now c.loop-i.seat c.claim.new.seat
    c.serve-served.new.seat c.loop-i.state c.serve-served.new.state c.loop-i.left drew.0 c.in-Index.i
    c.serve-served.result drew.1.0 drew.2 drew.3 inside
    c.serve-served.ensures.served c.loop-i.invariant.worked in
    record {
      seat = c.serve-served.ensures.seat;
      of_scan = c.serve-served.ensures.state;
      small = rw c.count.ensures (few_counted c.loop-i.left c.serve-served.result drew.0
          (omega (arith, left_few _ _ _ _ _ _ _ _ _ c.loop-i.invariant.worked, drew.1.1)) drew.1.2);
      worked = subst (Worked (g.F.Files.world c.args.files.now) (g.F.Files.may_fail c.args.files.now) c.args.desk.now
          c.args.scan.now c.args.seat.now c.serve-served.new.seat c.args.state.now c.serve-served.new.state)
          (sym c.count.ensures) one;
      given = λ h. c.serve-served.ensures.given (c.loop-i.invariant.given h);
    }

pub returns-clause-worked : goal.returns-clause-worked
returns-clause-worked g c = ended (g.F.Files.world c.args.files.now) (g.F.Files.may_fail c.args.files.now)
    c.args.desk.now c.args.scan.now c.args.seat.now c.args.state.now c.loop-i.seat c.claim.new.seat c.loop-i.state
    c.loop-i.left c.in_default.ensures.claims c.loop-i.invariant.worked
