use Rattle.std.proofs.Common.{◌≡◌, ◌∙◌, ap, sym}
use Rattle.std.specs.Prelude.{Err}
use Rattle.std.proofs.lemmas.Result.{err_from_is_err_and, on_ok_weaker}
use Rattle.icescan_text.specs.declared.fault.RunFault.TheVariants as run
use Rattle.icescan_text.proofs.Enough.{in_range}
use Rattle.icescan_requests.specs.Plans.{over_all_rows, over_wanted_rows}
use Rattle.icescan_requests.proofs.GivenPlans.{wrote_that}
use Rattle.icescan_requests.specs.GivenPlans.{IsPlanOfGivenAt}
use Rattle.icescan_requests.proofs.Plans.{answers_as, no_workers_at, refused_plan, same_answer_at, writes_no_plan}
use Rattle.icescan_requests.proofs.Plans.{writes_plan, writes_whoever_works, written_plan}
use Rattle.icescan_requests.proofs.table_texts.plan_file.Goals as goal

pub returns-in_err-workers-clause-workers : goal.returns-in_err-workers-clause-workers
returns-in_err-workers-clause-workers g c =
    let p = err_from_is_err_and c.from_residual.result c.from_residual.ensures.1 in
    let refused = c.in_err-workers.ensures.refused in
    rw (p.1, p.2) (λ is. refused.1, λ out. ap Err refused.0)

pub returns-in_err-workers-clause-wanted : goal.returns-in_err-workers-clause-wanted
returns-in_err-workers-clause-wanted g c =
    let p = err_from_is_err_and c.from_residual.result c.from_residual.ensures.1 in
    λ world told. rw (p.1, p.2)
    (no_workers_at over_wanted_rows world c.args.path.now c.args.request.now c.args.workers _
    (g.W.Sink.may_fail c.args.output.now) _ _ _
    c.in_err-workers.ensures.refused)

pub returns-in_err-workers-clause-plan : goal.returns-in_err-workers-clause-plan
returns-in_err-workers-clause-plan g c =
    let p = err_from_is_err_and c.from_residual.result c.from_residual.ensures.1 in
    λ world told truth. rw (p.1, p.2)
    (no_workers_at over_all_rows world c.args.path.now c.args.request.now c.args.workers _
    (g.W.Sink.may_fail c.args.output.now) _ _ _
    c.in_err-workers.ensures.refused)

pub returns-in_err-workers-clause-text : goal.returns-in_err-workers-clause-text
returns-in_err-workers-clause-text g c =
    let p = err_from_is_err_and c.from_residual.result c.from_residual.ensures.1 in
    let refused = c.in_err-workers.ensures.refused in
    rw (p.1, p.2) (writes_no_plan _ _ _ (λ is. let no : run.Workers ≡ run.Write = sym refused.0 ∙ is in absurd cc))

pub returns-in_err-planned-clause-workers : goal.returns-in_err-planned-clause-workers
returns-in_err-planned-clause-workers g c =
    let p = err_from_is_err_and c.from_residual-in_err-planned.result c.from_residual-in_err-planned.ensures.1 in
    let given = c.in_ok-workers.ensures.given in
    rw (p.1, p.2) (
      λ is. let q : c.in_err-planned.field-0.0 ≡ run.Workers = cc in absurd
          (c.in_err-planned.ensures.workers (ap Err q)),
      λ out. absurd (in_range c.args.workers given.1 given.2 out),
    )

pub returns-in_err-planned-clause-wanted : goal.returns-in_err-planned-clause-wanted
returns-in_err-planned-clause-wanted g c =
    let p = err_from_is_err_and c.from_residual-in_err-planned.result c.from_residual-in_err-planned.ensures.1 in
    let w = g.W.Sink.may_fail c.args.output.now in
    let given = c.in_ok-workers.ensures.given in
    λ world told. rw (p.1, p.2) (refused_plan _ _ w _ _ _ (rw given.0 at (c.in_err-planned.ensures.refused world told))
    (λ is. c.in_err-planned.ensures.write (ap Err is)))

pub returns-clause-wanted : goal.returns-clause-wanted
returns-clause-wanted g c =
    let given = c.in_ok-workers.ensures.given in
    let wrote = c.write_plan_by_workers.ensures in
    λ world told.
    written_plan c.in_ok-planned.planned.plan c.write_plan_by_workers.result _ _ (rw c.lines.ensures at wrote.all)
    (rw c.lines.ensures at wrote.front) _ _ (g.W.Sink.may_fail c.args.output.now)
    (rw given.0 at (c.in_ok-planned.ensures.found world told)) wrote.causes wrote.cause

pub returns-in_err-planned-clause-plan : goal.returns-in_err-planned-clause-plan
returns-in_err-planned-clause-plan g c =
    let p = err_from_is_err_and c.from_residual-in_err-planned.result c.from_residual-in_err-planned.ensures.1 in
    let w = g.W.Sink.may_fail c.args.output.now in
    let given = c.in_ok-workers.ensures.given in
    λ world told truth.
    let same = same_answer_at c.plans_of_true_summaries.ensures world c.args.path.now c.args.request.now c.args.workers
    truth
    in
    rw (p.1, p.2) (answers_as _ _ _ _ w _ _ _ (same) (λ path m. m)
    (refused_plan _ _ w _ _ _ (rw given.0 at (c.in_err-planned.ensures.refused world told))
    (λ is. c.in_err-planned.ensures.write (ap Err is))))

pub returns-clause-plan : goal.returns-clause-plan
returns-clause-plan g c =
    let given = c.in_ok-workers.ensures.given in
    let wrote = c.write_plan_by_workers.ensures in
    λ world told truth.
    let same = same_answer_at c.plans_of_true_summaries.ensures world c.args.path.now c.args.request.now c.args.workers
    truth
    in
    written_plan c.in_ok-planned.planned.plan c.write_plan_by_workers.result _ _ (rw c.lines.ensures at wrote.all)
    (rw c.lines.ensures at wrote.front) _ _ (g.W.Sink.may_fail c.args.output.now)
    (same ∙ (rw given.0 at (c.in_ok-planned.ensures.found world told))) wrote.causes wrote.cause

pub returns-in_err-planned-clause-text : goal.returns-in_err-planned-clause-text
returns-in_err-planned-clause-text g c =
    let p = err_from_is_err_and c.from_residual-in_err-planned.result c.from_residual-in_err-planned.ensures.1 in
    rw (p.1, p.2) (writes_no_plan _ _ _ (λ is. c.in_err-planned.ensures.write (ap Err is)))

pub returns-clause-workers : goal.returns-clause-workers
returns-clause-workers g c =
    let given = c.in_ok-workers.ensures.given in (
      λ is. absurd (writes_whoever_works c.write_plan_by_workers.result c.write_plan_by_workers.ensures.causes is),
      λ out. absurd (in_range c.args.workers given.1 given.2 out),
    )

pub returns-clause-text : goal.returns-clause-text
returns-clause-text g c =
    let wrote = c.write_plan_by_workers.ensures in
    writes_plan c.in_ok-planned.planned.plan c.write_plan_by_workers.result _ _ (rw c.lines.ensures at wrote.all)
    (rw c.lines.ensures at wrote.front)

pub returns-clause-selection : goal.returns-clause-selection
returns-clause-selection g c =
    let read = c.in_ok-planned.ensures.selection in
    on_ok_weaker c.write_plan_by_workers.result (λ _. (read.0, read.2.0, read.2.1)) c.write_plan_by_workers.ensures.all

pub returns-clause-given : goal.returns-clause-given
returns-clause-given g c =
    let read = c.in_ok-planned.ensures.given in
    wrote_that (IsPlanOfGivenAt (g.F.Files.gives c.args.files.now) c.args.path.now c.args.request.now)
    c.in_ok-planned.planned.plan c.write_plan_by_workers.result _ _
    (record { metadata = read.0; read = read.1; planned = read.2 })
    (rw c.lines.ensures at c.write_plan_by_workers.ensures.all)
