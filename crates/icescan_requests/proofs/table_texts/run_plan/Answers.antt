use Rattle.std.proofs.Common.{◌∙◌, ap, sym}
use Rattle.std.specs.Prelude.{Err}
use Rattle.std.proofs.lemmas.Result.{err_from_is_err_and}
use Rattle.icescan_requests.proofs.GivenPlans.{wrote_that}
use Rattle.icescan_requests.proofs.Plans.{answers_as, refused_plan, writes_no_plan, writes_plan, written_plan}
use Rattle.icescan_requests.proofs.table_texts.run_plan.Goals as goal

pub returns-in_err-plan-clause-wanted : goal.returns-in_err-plan-clause-wanted
returns-in_err-plan-clause-wanted g c =
    let p = err_from_is_err_and c.from_residual.result c.from_residual.ensures.1 in
    λ world told. rw (p.1, p.2)
    (refused_plan _ _ (g.W.Sink.may_fail c.args.output.now) _ _ _ (c.in_err-plan.ensures.refused world told)
    (λ is. c.in_err-plan.ensures.write (ap Err is)))

pub returns-in_err-plan-clause-plan : goal.returns-in_err-plan-clause-plan
returns-in_err-plan-clause-plan g c =
    let p = err_from_is_err_and c.from_residual.result c.from_residual.ensures.1 in
    let w = g.W.Sink.may_fail c.args.output.now in
    λ world told truth.
    let same = sym (c.plans_of_true_summaries.ensures world c.args.metadata.now c.args.request.now truth) in
    rw (p.1, p.2) (answers_as _ _ _ _ w _ _ _ same (λ path m. m)
    (refused_plan _ _ w _ _ _ (c.in_err-plan.ensures.refused world told)
    (λ is. c.in_err-plan.ensures.write (ap Err is))))

pub returns-in_err-plan-clause-text : goal.returns-in_err-plan-clause-text
returns-in_err-plan-clause-text g c =
    let p = err_from_is_err_and c.from_residual.result c.from_residual.ensures.1 in
    rw (p.1, p.2) (writes_no_plan _ _ _ (λ is. c.in_err-plan.ensures.write (ap Err is)))

pub returns-clause-wanted : goal.returns-clause-wanted
returns-clause-wanted g c =
    let wrote = c.write_plan.ensures in
    λ world told.
    written_plan c.in_ok-plan.plan c.write_plan.result _ _ (rw c.lines.ensures at wrote.all)
    (rw c.lines.ensures at wrote.front) _ _ (g.W.Sink.may_fail c.args.output.now)
    (c.in_ok-plan.ensures.found world told) wrote.causes wrote.cause

pub returns-clause-plan : goal.returns-clause-plan
returns-clause-plan g c =
    let wrote = c.write_plan.ensures in
    λ world told truth.
    let same = sym (c.plans_of_true_summaries.ensures world c.args.metadata.now c.args.request.now truth) in
    written_plan c.in_ok-plan.plan c.write_plan.result _ _ (rw c.lines.ensures at wrote.all)
    (rw c.lines.ensures at wrote.front) _ _ (g.W.Sink.may_fail c.args.output.now)
    (same ∙ c.in_ok-plan.ensures.found world told) wrote.causes wrote.cause

pub returns-clause-text : goal.returns-clause-text
returns-clause-text g c =
    let wrote = c.write_plan.ensures in
    writes_plan c.in_ok-plan.plan c.write_plan.result _ _ (rw c.lines.ensures at wrote.all)
    (rw c.lines.ensures at wrote.front)

pub returns-clause-given : goal.returns-clause-given
returns-clause-given g c = wrote_that _ c.in_ok-plan.plan c.write_plan.result _ _ c.in_ok-plan.ensures.given
    (rw c.lines.ensures at c.write_plan.ensures.all)
