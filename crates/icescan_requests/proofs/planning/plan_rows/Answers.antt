use Rattle.std.proofs.Common.{length, subst, sym}
use Rattle.std.proofs.lemmas.Result.{err_from_is_err_and}
use Rattle.ice_desk.proofs.Given.{none_given}
use Rattle.ice_desk.specs.Given.{IsGiven}
use Rattle.ice_state.specs.Contents.{no_row}
use Rattle.icescan_requests.proofs.Plans.{no_plan, no_scan, not_taken, plan_there}
use Rattle.icescan_text.proofs.Steps.{each_present, nothing_taken, untaken_all}
use Rattle.icescan_requests.proofs.planning.plan_rows.Goals as goal

pub returns-in_err-scan-clause-answer : goal.returns-in_err-scan-clause-answer
returns-in_err-scan-clause-answer g c =
    let p = err_from_is_err_and c.from_residual.result c.from_residual.ensures.1 in
    λ world told. rw (p.1, p.2) (
      tt,
      no_scan (g.F.Files.may_fail c.args.files.now) ⊥ world c.args.selected.specs c.args.selected.filter.parts
          c.args.selected.rows c.in_err-scan.field-0.0 c.in_err-scan.ensures,
    )

pub returns-in_err-take_wanted-clause-answer : goal.returns-in_err-take_wanted-clause-answer
returns-in_err-take_wanted-clause-answer g c =
    let p = err_from_is_err_and c.from_residual-in_err-take_wanted.result
    c.from_residual-in_err-take_wanted.ensures.1 in
    λ world told.
    let stopped = rw c.in_ok-state.ensures.none at (c.in_err-take_wanted.ensures.refused world told) in
    rw (p.1, p.2) (
      tt,
      not_taken (g.F.Files.may_fail c.args.files.now) ⊥ world c.args.selected.specs c.args.selected.filter.parts
          c.args.selected.rows c.in_ok-scan.scan c.in_ok-scan.ensures c.in_err-take_wanted.field-0.0 stopped,
    )

pub returns-in_err-into_plan-clause-answer : goal.returns-in_err-into_plan-clause-answer
returns-in_err-into_plan-clause-answer g c =
    let p = err_from_is_err_and c.from_residual-in_err-into_plan.result c.from_residual-in_err-into_plan.ensures.1 in
    let scan = c.in_ok-scan.scan in
    λ world told.
    let present = each_present world scan.wanted
    (rw (c.in_ok-state.ensures.none, untaken_all scan.wanted)
    at (c.in_ok-take_wanted.ensures.present world told)) in
    let taken = c.in_ok-take_wanted.ensures.taken world (no_row scan) told
    (nothing_taken world scan c.in_ok-state.state (c.in_ok-state.ensures.world world)) in
    let fault = rw taken.is at c.in_err-into_plan.ensures.outcome in
    rw (p.1, p.2) (
      tt,
      no_plan (g.F.Files.may_fail c.args.files.now) ⊥ world c.args.selected.specs c.args.selected.filter.parts
          c.args.selected.rows scan c.in_ok-scan.ensures present c.in_err-into_plan.field-0.0 fault,
    )

pub returns-clause-answer : goal.returns-clause-answer
returns-clause-answer g c =
    let scan = c.in_ok-scan.scan in
    λ world told.
    let present = each_present world scan.wanted
    (rw (c.in_ok-state.ensures.none, untaken_all scan.wanted)
    at (c.in_ok-take_wanted.ensures.present world told)) in
    let taken = c.in_ok-take_wanted.ensures.taken world (no_row scan) told
    (nothing_taken world scan c.in_ok-state.state (c.in_ok-state.ensures.world world)) in (
      plan_there (g.F.Files.may_fail c.args.files.now) ⊥ world c.args.selected.specs c.args.selected.filter.parts
          c.args.selected.rows scan c.in_ok-scan.ensures present c.in_ok-into_plan.field-0
          (rw taken.is at c.in_ok-into_plan.ensures.outcome),
      tt,
    )

pub returns-clause-given : goal.returns-clause-given
returns-clause-given g c =
    let scan = c.in_ok-scan.scan in
    let gives = g.F.Files.gives c.args.files.now in
    record {
      scan = scan;
      scan_is = c.in_ok-scan.ensures;
      content = c.take_wanted.new.state;
      of_scan = c.in_ok-take_wanted.ensures.of_scan;
      whole = c.in_ok-take_wanted.ensures.whole;
      given = c.in_ok-take_wanted.ensures.given (subst (IsGiven gives scan) (sym c.in_ok-state.ensures.none)
          (none_given gives scan scan.wanted (length scan.wanted)));
      is = c.in_ok-into_plan.ensures.outcome;
    }
