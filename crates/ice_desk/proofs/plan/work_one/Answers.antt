use Rattle.std.proofs.Common.{arith, length, subst, sym}
use Rattle.ice_desk.specs.Given.{IsGiven}
use Rattle.ice_desk.proofs.Crews.{one_served}
use Rattle.ice_desk.proofs.Given.{none_given}
use Rattle.ice_desk.proofs.plan.work_one.Goals as goal

pub returns-clause-served : goal.returns-clause-served
returns-clause-served g c =
    one_served (g.F.Files.world c.args.files.now) (g.F.Files.may_fail c.args.files.now) c.args.desk.now c.args.scan.now
    c.args.seats.items c.index_mut.result.now c.work-left.new.seat c.in_ok-state.state c.work-left.new.state
    c.work-left.result
    (omega (arith, c.args.seats.ok, c.requires.one)) c.index_mut.ensures.value c.requires.ready.1
    c.in_ok-state.ensures.world c.work-left.ensures.seat c.work-left.ensures.done c.work-left.ensures.small
    c.work-left.ensures.worked

pub returns-clause-given : goal.returns-clause-given
returns-clause-given g c =
    let scan = c.args.scan.now in
    c.work-left.ensures.given (subst (IsGiven (g.F.Files.gives c.args.files.now) scan) (sym c.in_ok-state.ensures.none)
    (none_given (g.F.Files.gives c.args.files.now) scan scan.wanted (length scan.wanted)))
