use Rattle.std.proofs.Common.{◌∙◌, ap, sym, List, ℕ, Some, subst}
use Rattle.std.specs.Prelude.{Ok}
use Rattle.std.proofs.lemmas.Result.{err_from_is_err_and, IfErr-weaker, IfOk-weaker}
use Rattle.icescan_requests.proofs.GivenPlans.{ok_both}
use Rattle.icescan_requests.proofs.Plans.{answer_behind, no_metadata, no_plan_behind}
use Rattle.icescan_requests.proofs.table_plans.plan_table_at.Goals as goal

pub returns-in_err-metadata-clause-refused : goal.returns-in_err-metadata-clause-refused
returns-in_err-metadata-clause-refused g c =
    let p = err_from_is_err_and c.from_residual.result c.from_residual.ensures.1 in
    λ world told. rw (p.1, p.2)
    (no_metadata (g.F.Files.may_fail c.args.files.now) world c.args.path.now c.args.request.now c.args.workers.count
    c.args.workers.some c.args.workers.few c.in_err-metadata.field-0.0
    (c.in_err-metadata.ensures.refused world told))

pub returns-clause-found : goal.returns-clause-found
returns-clause-found g c =
    λ world told.
    let has = c.in_ok-metadata.ensures.found world told ∙ ap Ok (sym c.deref.ensures.value) in
    let behind = answer_behind (g.F.Files.may_fail c.args.files.now) world c.args.path.now c.args.request.now
    c.args.workers.count c.args.workers.some c.args.workers.few c.deref.result.now has in
    IfOk-weaker c.plan_table.result _ _ (λ planned is. behind ∙ is) (c.plan_table.ensures.found world told)

pub returns-clause-refused : goal.returns-clause-refused
returns-clause-refused g c =
    λ world told.
    let has = c.in_ok-metadata.ensures.found world told ∙ ap Ok (sym c.deref.ensures.value) in
    IfErr-weaker c.plan_table.result _ _
    (no_plan_behind (g.F.Files.may_fail c.args.files.now) world c.args.path.now c.args.request.now
    c.args.workers.count c.args.workers.some c.args.workers.few c.deref.result.now has)
    (c.plan_table.ensures.refused world told)

pub returns-clause-selection : goal.returns-clause-selection
returns-clause-selection g c =
    IfOk-weaker c.plan_table.result _ _ (λ planned asked. (
      c.deref.result.now,
      (λ world told. c.in_ok-metadata.ensures.found world told ∙ ap Ok (sym c.deref.ensures.value)),
      asked,
    )) c.plan_table.ensures.selection

pub returns-clause-given : goal.returns-clause-given
returns-clause-given g c =
    let read = subst (λ (bytes : List ℕ). g.F.Files.gives c.args.files.now c.args.path.now (Some bytes))
    (sym c.deref.ensures.value) c.in_ok-metadata.ensures.given in
    IfOk-weaker c.plan_table.result _ _ (λ planned is. (c.deref.result.now, read, is.0, is.1))
    (ok_both c.plan_table.result _ _ c.plan_table.ensures.given c.plan_table.ensures.selection)
