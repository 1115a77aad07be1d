use Rattle.std.proofs.Common.{◌∙◌}
use Rattle.std.proofs.lemmas.Result.{err_from_is_err_and, IfErr-weaker, IfOk-weaker}
use Rattle.icescan_requests.proofs.GivenPlans.{plan_of_selected}
use Rattle.icescan_requests.proofs.Plans.{answer_there, no_plan_found, no_rows_found}
use Rattle.icescan_requests.proofs.table_plans.plan_table_alone.Goals as goal

pub returns-in_err-selected-clause-refused : goal.returns-in_err-selected-clause-refused
returns-in_err-selected-clause-refused g c =
    let p = err_from_is_err_and c.from_residual.result c.from_residual.ensures.1 in
    λ world told. rw (p.1, p.2)
    (no_rows_found (g.F.Files.may_fail c.args.files.now) world c.args.metadata.now c.args.request.now
    c.in_err-selected.field-0.0 (c.in_err-selected.ensures.refused world told))

pub returns-clause-found : goal.returns-clause-found
returns-clause-found g c =
    λ world told.
    let there = answer_there (g.F.Files.may_fail c.args.files.now) world c.args.metadata.now c.args.request.now
    c.in_ok-selected.selected (c.in_ok-selected.ensures.found world told) in
    IfOk-weaker c.plan_rows.result _ _ (λ plan is. there ∙ is) (c.plan_rows.ensures.answer world told).0

pub returns-clause-refused : goal.returns-clause-refused
returns-clause-refused g c =
    λ world told.
    IfErr-weaker c.plan_rows.result _ _
    (no_plan_found (g.F.Files.may_fail c.args.files.now) world c.args.metadata.now c.args.request.now
    c.in_ok-selected.selected (c.in_ok-selected.ensures.found world told)) (c.plan_rows.ensures.answer world told).1

pub returns-clause-given : goal.returns-clause-given
returns-clause-given g c =
    IfOk-weaker c.plan_rows.result _ _ (λ plan planned. plan_of_selected (g.F.Files.gives c.args.files.now)
    c.args.metadata.now c.args.request.now c.in_ok-selected.selected plan c.in_ok-selected.ensures.given planned)
    c.plan_rows.ensures.given
