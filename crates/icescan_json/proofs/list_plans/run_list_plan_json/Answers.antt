use Rattle.std.proofs.Common.{ap}
use Rattle.std.specs.Prelude.{Err}
use Rattle.std.proofs.lemmas.Result.{err_from_is_err_and}
use Rattle.icescan_json.proofs.Listings.{plan_listed, refused_listed}
use Rattle.icescan_json.proofs.Written.{json_that, refused_json, refused_writes_none, writes_json, written_json}
use Rattle.icescan_json.proofs.list_plans.run_list_plan_json.Goals as goal

pub returns-in_err-plan_list-clause-answers : goal.returns-in_err-plan_list-clause-answers
returns-in_err-plan_list-clause-answers g c =
    let p = err_from_is_err_and c.from_residual.result c.from_residual.ensures.1 in
    λ world told. rw (p.1, p.2)
    (refused_json _ _ (g.W.Sink.may_fail c.args.output.now) _ _ _
    (refused_listed world c.args.list.now _ c.in_err-plan_list.field-0.0
    (c.in_err-plan_list.ensures.refused world told))
    (λ is. c.in_err-plan_list.ensures.write (ap Err is)))

pub returns-in_err-plan_list-clause-text : goal.returns-in_err-plan_list-clause-text
returns-in_err-plan_list-clause-text g c =
    let p = err_from_is_err_and c.from_residual.result c.from_residual.ensures.1 in
    rw (p.1, p.2) (refused_writes_none _ _ _ (λ is. c.in_err-plan_list.ensures.write (ap Err is)))

pub returns-clause-answers : goal.returns-clause-answers
returns-clause-answers g c =
    let wrote = c.write_json.ensures in
    λ world told.
    let there = plan_listed world c.args.list.now c.in_ok-plan_list.field-0
    (c.in_ok-plan_list.ensures.found world told) in
    written_json _ c.write_json.result (g.W.Sink.may_fail c.args.output.now) _ _ wrote.all wrote.front
    _ _ (rw (c.new.ensures, c.in_ok-every_row.ensures) there) wrote.causes wrote.cause

pub returns-clause-text : goal.returns-clause-text
returns-clause-text g c =
    let wrote = c.write_json.ensures in
    writes_json _ c.write_json.result (g.W.Sink.may_fail c.args.output.now) _ _ wrote.all wrote.front

pub returns-clause-given : goal.returns-clause-given
returns-clause-given g c =
    json_that _ _ c.write_json.result _ _ (c.in_ok-plan_list.ensures.given, c.new.ensures, c.in_ok-every_row.ensures) c.write_json.ensures.all
