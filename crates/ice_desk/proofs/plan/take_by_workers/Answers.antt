use Rattle.std.proofs.Common.{◌∙◌, ap, arith, length}
use Rattle.ice_desk.proofs.Crews.{nothing_left}
use Rattle.ice_desk.proofs.plan.take_by_workers.Goals as goal

pub returns-clause-whole : goal.returns-clause-whole
returns-clause-whole g c =
    let crew = c.in_ok-seats.field-0 in
    let desk = c.in_ok-desk.ensures.desk in
    nothing_left (g.F.Files.world c.args.files.now) (g.F.Files.may_fail c.args.files.now) c.in_ok-desk.desk
    c.args.scan.now crew.seats.items crew.state crew.left c.in_ok-seats.ensures.served
    (desk.0 ∙ ap length c.wanted.ensures) (omega (arith, desk.1)) (omega (
      arith,
      crew.seats.ok,
      c.in_ok-seats.ensures.count,
      c.in_ok-desk.ensures.count,
      c.requires.workers.0,
    )) c.close.ensures.whole c.close.ensures.seen
