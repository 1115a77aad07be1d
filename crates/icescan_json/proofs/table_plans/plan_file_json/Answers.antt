use Rattle.std.proofs.Common.{◌≡◌, ◌∙◌, ap, subst, sym}
use Rattle.std.specs.Prelude.{Err}
use Rattle.std.proofs.lemmas.Result.{err_from_is_err_and}
use Rattle.ice_desk.specs.Worlds.{EndsAt}
use Rattle.icescan_text.specs.Reads.{MayEnd}
use Rattle.icescan_text.specs.declared.fault.RunFault.TheVariants as run
use Rattle.icescan_text.proofs.Enough.{in_range}
use Rattle.icescan_requests.proofs.Plans.{writes_whoever_works}
use Rattle.icescan_requests.specs.Plans.{over_all_rows, over_wanted_rows, reads_at}
use Rattle.icescan_json.proofs.Asked.{same_typed_at}
use Rattle.icescan_json.proofs.Written.{json_that, no_workers_at, refused_json, refused_writes_none, writes_json}
use Rattle.icescan_json.proofs.Written.{written_json}
use Rattle.icescan_json.proofs.table_plans.plan_file_json.Goals as goal

pub returns-in_err-workers-clause-workers : goal.returns-in_err-workers-clause-workers
returns-in_err-workers-clause-workers g c =
    let p = err_from_is_err_and c.from_residual.result c.from_residual.ensures.1 in
    let refused = c.in_err-workers.ensures.refused in
    rw (p.1, p.2) (λ is. refused.1, λ out. ap Err refused.0)

pub returns-in_err-workers-clause-wanted : goal.returns-in_err-workers-clause-wanted
returns-in_err-workers-clause-wanted g c =
    let p = err_from_is_err_and c.from_residual.result c.from_residual.ensures.1 in
    λ world told. rw (p.1, p.2)
    (no_workers_at over_wanted_rows world c.args.path.now c.args.request.now c.args.workers _
    (g.W.Sink.may_fail c.args.output.now) _ _ _ c.in_err-workers.ensures.refused)

pub returns-in_err-workers-clause-plan : goal.returns-in_err-workers-clause-plan
returns-in_err-workers-clause-plan g c =
    let p = err_from_is_err_and c.from_residual.result c.from_residual.ensures.1 in
    λ world told truth. rw (p.1, p.2)
    (no_workers_at over_all_rows world c.args.path.now c.args.request.now c.args.workers _
    (g.W.Sink.may_fail c.args.output.now) _ _ _ c.in_err-workers.ensures.refused)

pub returns-in_err-workers-clause-text : goal.returns-in_err-workers-clause-text
returns-in_err-workers-clause-text g c =
    let p = err_from_is_err_and c.from_residual.result c.from_residual.ensures.1 in
    let refused = c.in_err-workers.ensures.refused in
    rw (p.1, p.2) (refused_writes_none _ _ _ (λ is. let no : run.Workers ≡ run.Write = sym refused.0 ∙ is in absurd cc))

pub returns-in_err-typed-clause-workers : goal.returns-in_err-typed-clause-workers
returns-in_err-typed-clause-workers g c =
    let p = err_from_is_err_and c.from_residual-in_err-typed.result c.from_residual-in_err-typed.ensures.1 in
    let given = c.in_ok-workers.ensures.given in
    rw (p.1, p.2) (
      λ is. let q : c.in_err-typed.field-0.0 ≡ run.Workers = cc in absurd (c.in_err-typed.ensures.workers (ap Err q)),
      λ out. absurd (in_range c.args.workers given.1 given.2 out),
    )

pub returns-in_err-typed-clause-wanted : goal.returns-in_err-typed-clause-wanted
returns-in_err-typed-clause-wanted g c =
    let p = err_from_is_err_and c.from_residual-in_err-typed.result c.from_residual-in_err-typed.ensures.1 in
    let given = c.in_ok-workers.ensures.given in
    λ world told. rw (p.1, p.2)
    (refused_json _ _ (g.W.Sink.may_fail c.args.output.now) _ _ _
    (rw given.0 at (c.in_err-typed.ensures.refused world told)) (λ is. c.in_err-typed.ensures.write (ap Err is)))

pub returns-in_err-typed-clause-plan : goal.returns-in_err-typed-clause-plan
returns-in_err-typed-clause-plan g c =
    let p = err_from_is_err_and c.from_residual-in_err-typed.result c.from_residual-in_err-typed.ensures.1 in
    let given = c.in_ok-workers.ensures.given in
    λ world told truth.
    let same = same_typed_at c.plans_of_true_summaries.ensures world c.args.path.now c.args.request.now c.args.workers
    truth
    in
    let refused = rw given.0 at (c.in_err-typed.ensures.refused world told) in
    rw (p.1, p.2)
    (refused_json _ _ (g.W.Sink.may_fail c.args.output.now) _ _ _
    (subst (λ a. MayEnd a (EndsAt world (g.F.Files.may_fail c.args.files.now)
    (reads_at world c.args.path.now c.args.request.now)) ⊥ c.in_err-typed.field-0.0) (sym same) refused)
    (λ is. c.in_err-typed.ensures.write (ap Err is)))

pub returns-in_err-typed-clause-text : goal.returns-in_err-typed-clause-text
returns-in_err-typed-clause-text g c =
    let p = err_from_is_err_and c.from_residual-in_err-typed.result c.from_residual-in_err-typed.ensures.1 in
    rw (p.1, p.2) (refused_writes_none _ _ _ (λ is. c.in_err-typed.ensures.write (ap Err is)))

pub returns-clause-workers : goal.returns-clause-workers
returns-clause-workers g c =
    let given = c.in_ok-workers.ensures.given in (
      λ is. absurd (writes_whoever_works c.write_json_by_workers.result c.write_json_by_workers.ensures.causes is),
      λ out. absurd (in_range c.args.workers given.1 given.2 out),
    )

pub returns-clause-wanted : goal.returns-clause-wanted
returns-clause-wanted g c =
    let given = c.in_ok-workers.ensures.given in
    let wrote = c.write_json_by_workers.ensures in
    λ world told.
    written_json c.in_ok-typed.typed c.write_json_by_workers.result (g.W.Sink.may_fail c.args.output.now) _ _ wrote.all
    wrote.front _ _ (rw given.0 at (c.in_ok-typed.ensures.found world told)) wrote.causes wrote.cause

pub returns-clause-plan : goal.returns-clause-plan
returns-clause-plan g c =
    let given = c.in_ok-workers.ensures.given in
    let wrote = c.write_json_by_workers.ensures in
    λ world told truth.
    let same = same_typed_at c.plans_of_true_summaries.ensures world c.args.path.now c.args.request.now c.args.workers
    truth
    in
    written_json c.in_ok-typed.typed c.write_json_by_workers.result (g.W.Sink.may_fail c.args.output.now) _ _ wrote.all
    wrote.front _ _ (same ∙ (rw given.0 at (c.in_ok-typed.ensures.found world told))) wrote.causes wrote.cause

pub returns-clause-text : goal.returns-clause-text
returns-clause-text g c =
    let wrote = c.write_json_by_workers.ensures in
    writes_json c.in_ok-typed.typed c.write_json_by_workers.result (g.W.Sink.may_fail c.args.output.now) _ _ wrote.all
    wrote.front

pub returns-clause-given : goal.returns-clause-given
returns-clause-given g c =
    json_that _ c.in_ok-typed.typed c.write_json_by_workers.result _ _ c.in_ok-typed.ensures.given
    c.write_json_by_workers.ensures.all
