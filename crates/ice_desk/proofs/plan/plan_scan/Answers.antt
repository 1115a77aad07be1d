use Rattle.std.proofs.Common.{◌≡◌, List}
use Rattle.std.proofs.lemmas.Result.{err_from_is_err_and}
use Rattle.ice_state.specs.Lines.{OwnedLine}
use Rattle.ice_state.specs.declared.fault.FinishFault.TheVariants as finish
use Rattle.ice_desk.specs.Faults.{of_finish}
use Rattle.ice_desk.specs.declared.fault.PlanFault.TheVariants.{Finish}
use Rattle.ice_desk.proofs.Finishing.{each_present, finished_by, gives_fault, never_missing, of_missing, stops}
use Rattle.ice_desk.proofs.plan.plan_scan.Goals as goal

pub returns-in_err-take_wanted-clause-refused : goal.returns-in_err-take_wanted-clause-refused
returns-in_err-take_wanted-clause-refused g c =
    let p = err_from_is_err_and c.from_residual-in_err-take_wanted.result
    c.from_residual-in_err-take_wanted.ensures.1 in
    λ world told.
    let some = c.in_ok-state.ensures.content world told in
    rw (p.1, p.2) (stops world (g.F.Files.may_fail c.args.files.now) c.args.scan.now c.in_ok-state.state some.0
    c.in_err-take_wanted.field-0.0 some.1 (c.in_err-take_wanted.ensures.refused world told))

pub returns-in_err-plan-clause-present : goal.returns-in_err-plan-clause-present
returns-in_err-plan-clause-present g c =
    let p = err_from_is_err_and c.from_residual-in_err-plan.result c.from_residual-in_err-plan.ensures.1 in
    λ world told.
    let some = c.in_ok-state.ensures.content world told in
    rw (p.1, p.2) (finished_by (List OwnedLine) c.in_err-plan.field-0.0 _ (each_present world c.args.scan.now
    c.in_ok-state.state some.0 some.1 (c.in_ok-take_wanted.ensures.present world told)))

pub returns-in_err-plan-clause-snapshot : goal.returns-in_err-plan-clause-snapshot
returns-in_err-plan-clause-snapshot g c =
    let p = err_from_is_err_and c.from_residual-in_err-plan.result c.from_residual-in_err-plan.ensures.1 in
    λ world rows specs told is covered.
    let some = c.in_ok-state.ensures.content world told in
    let present = each_present world c.args.scan.now c.in_ok-state.state some.0 some.1
    (c.in_ok-take_wanted.ensures.present world told) in
    let whole = c.in_ok-take_wanted.ensures.taken world some.0 told some.1 in
    rw (p.1, p.2) (gives_fault (λ (lines : List OwnedLine). lines) c.in_err-plan.field-0.0 _
    (c.in_err-plan.ensures.snapshot world rows specs is covered present whole.is))

pub returns-in_err-plan-clause-taken : goal.returns-in_err-plan-clause-taken
returns-in_err-plan-clause-taken g c =
    let p = err_from_is_err_and c.from_residual-in_err-plan.result c.from_residual-in_err-plan.ensures.1 in
    rw (p.1, p.2) (finished_by (List OwnedLine) c.in_err-plan.field-0.0 _ (
      c.take_wanted.new.state,
      c.in_ok-take_wanted.ensures.of_scan,
      c.in_ok-take_wanted.ensures.whole,
      gives_fault (λ (lines : List OwnedLine).
          lines) c.in_err-plan.field-0.0 _ c.in_err-plan.ensures.outcome,
    ))

pub returns-in_err-plan-clause-missing : goal.returns-in_err-plan-clause-missing
returns-in_err-plan-clause-missing g c =
    let p = err_from_is_err_and c.from_residual-in_err-plan.result c.from_residual-in_err-plan.ensures.1 in
    λ path is.
    let both = rw (p.1, p.2) at is in
    let named : of_finish c.in_err-plan.field-0.0 ≡ Finish (finish.Missing path) = cc in
    let same = of_missing c.in_err-plan.field-0.0 path named in
    never_missing c.args.scan.now c.take_wanted.new.state path c.in_ok-take_wanted.ensures.whole
    (rw same at (c.in_err-plan.ensures.outcome (λ m. cc)))

pub returns-clause-present : goal.returns-clause-present
returns-clause-present g c = λ world told.
    let some = c.in_ok-state.ensures.content world told in
    each_present world c.args.scan.now c.in_ok-state.state some.0 some.1 (c.in_ok-take_wanted.ensures.present world
    told)

pub returns-clause-snapshot : goal.returns-clause-snapshot
returns-clause-snapshot g c = λ world rows specs told is covered.
    let some = c.in_ok-state.ensures.content world told in
    let whole = c.in_ok-take_wanted.ensures.taken world some.0 told some.1 in
    c.in_ok-plan.ensures.snapshot world rows specs is covered (returns-clause-present g c world told) whole.is

pub returns-clause-outcome : goal.returns-clause-outcome
returns-clause-outcome g c = λ world told.
    let some = c.in_ok-state.ensures.content world told in
    let whole = c.in_ok-take_wanted.ensures.taken world some.0 told some.1 in
    rw whole.is at c.in_ok-plan.ensures.outcome

pub returns-clause-taken : goal.returns-clause-taken
returns-clause-taken g c = (
  c.take_wanted.new.state,
  c.in_ok-take_wanted.ensures.of_scan,
  c.in_ok-take_wanted.ensures.whole,
  c.in_ok-plan.ensures.outcome,
)

pub returns-in_err-plan-clause-given : goal.returns-in_err-plan-clause-given
returns-in_err-plan-clause-given g c =
    let p = err_from_is_err_and c.from_residual-in_err-plan.result c.from_residual-in_err-plan.ensures.1 in
    rw (p.1, p.2) (finished_by (List OwnedLine) c.in_err-plan.field-0.0 _ (
      c.take_wanted.new.state,
      c.in_ok-take_wanted.ensures.of_scan,
      c.in_ok-take_wanted.ensures.whole,
      c.in_ok-take_wanted.ensures.given c.in_ok-state.ensures.given,
      gives_fault (λ (lines : List OwnedLine).
          lines) c.in_err-plan.field-0.0 _ c.in_err-plan.ensures.outcome,
    ))

pub returns-clause-given : goal.returns-clause-given
returns-clause-given g c = (
  c.take_wanted.new.state,
  c.in_ok-take_wanted.ensures.of_scan,
  c.in_ok-take_wanted.ensures.whole,
  c.in_ok-take_wanted.ensures.given c.in_ok-state.ensures.given,
  c.in_ok-plan.ensures.outcome,
)
