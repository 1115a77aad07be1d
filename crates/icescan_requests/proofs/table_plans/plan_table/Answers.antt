use Rattle.std.proofs.Common.{◌∙◌}
use Rattle.std.proofs.lemmas.Result.{err_from_is_err_and}
use Rattle.icescan_requests.proofs.GivenPlans.{plan_of_selected}
use Rattle.icescan_requests.proofs.Plans.{answer_there, no_plan_found, no_rows_found}
use Rattle.icescan_requests.proofs.table_plans.plan_table.Goals as goal

pub returns-in_err-selected-clause-refused : goal.returns-in_err-selected-clause-refused
returns-in_err-selected-clause-refused g c =
    let p = err_from_is_err_and c.from_residual.result c.from_residual.ensures.1 in
    λ world told. rw (p.1, p.2)
    (no_rows_found (g.F.Files.may_fail c.args.files.now) world c.args.metadata.now c.args.request.now
    c.in_err-selected.field-0.0 (c.in_err-selected.ensures.refused world told))

pub returns-in_err-plan-clause-refused : goal.returns-in_err-plan-clause-refused
returns-in_err-plan-clause-refused g c =
    let p = err_from_is_err_and c.from_residual-in_err-plan.result c.from_residual-in_err-plan.ensures.1 in
    λ world told. rw (p.1, p.2)
    (no_plan_found (g.F.Files.may_fail c.args.files.now) world c.args.metadata.now c.args.request.now
    c.in_ok-selected.selected (c.in_ok-selected.ensures.found world told) c.in_err-plan.field-0.0
    (c.in_err-plan.ensures.answer world told).1)

pub returns-clause-found : goal.returns-clause-found
returns-clause-found g c =
    λ world told.
    answer_there (g.F.Files.may_fail c.args.files.now) world c.args.metadata.now c.args.request.now
    c.in_ok-selected.selected (c.in_ok-selected.ensures.found world told) ∙ (c.in_ok-plan.ensures.answer world told).0

pub returns-clause-selection : goal.returns-clause-selection
returns-clause-selection g c =
    let asked = c.in_ok-selected.ensures.selection in
    (asked.0, asked.1, c.in_ok-specs.ensures ∙ (c.as_slice.ensures ∙ asked.2))

pub returns-clause-given : goal.returns-clause-given
returns-clause-given g c =
    plan_of_selected (g.F.Files.gives c.args.files.now) c.args.metadata.now c.args.request.now
    c.in_ok-selected.selected c.in_ok-plan.plan c.in_ok-selected.ensures.given c.in_ok-plan.ensures.given
