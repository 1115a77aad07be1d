use Rattle.std.proofs.Common.{◌≡◌, ◌∙◌, List, ap, rules, sym}
use Rattle.std.specs.Prelude.{Ok}
use Rattle.std.proofs.lemmas.Result.{err_from_is_err_and, IfErr-weaker}
use Rattle.ice_filter.specs.declared.bound.Bound.{Bound}
use Rattle.ice_meta.specs.declared.spec.Spec.{Spec}
use Rattle.icescan_requests.proofs.GivenPlans.{ok_both, planned_as_selected}
use Rattle.icescan_explain.specs.Asking.{ice_filter_tests}
use Rattle.icescan_explain.specs.Columns.{columns_in}
use Rattle.icescan_explain.specs.Explanations.{tests_for}
use Rattle.icescan_explain.proofs.Rows.{both_ok}
use Rattle.icescan_explain.proofs.Telling.{explained_there, no_plan, no_rows_found}
use Rattle.icescan_explain.proofs.running.explain_table_by_workers.Goals as goal

pub explain_rows_by_workers-requires-after_bounds : goal.explain_rows_by_workers-requires-after_bounds
explain_rows_by_workers-requires-after_bounds g c κs within = (c.deref.result.now, rw c.as_slice-specs.ensures at c.in_ok-tests.ensures)

pub returns-in_err-selected-clause-answer : goal.returns-in_err-selected-clause-answer
returns-in_err-selected-clause-answer g c =
    let p = err_from_is_err_and c.from_residual.result c.from_residual.ensures.1 in
    λ world told. rw (p.1, p.2) (
      tt,
      no_rows_found (g.F.Files.may_fail c.args.files.now) world c.args.metadata.now c.args.request.now
          c.in_err-selected.field-0.0 (c.in_err-selected.ensures.refused world told),
    )

pub returns-clause-answer : goal.returns-clause-answer
returns-clause-answer g c =
    let found = c.in_ok-selected.selected in
    let tests : c.in_ok-tests.tests
    ≡ ice_filter_tests found.specs found.filter.parts (columns_in c.args.request.now.filter) = search rules in
    λ world told.
    let there = explained_there (g.F.Files.may_fail c.args.files.now) world c.args.metadata.now c.args.request.now found
    (c.in_ok-selected.ensures.found world told) in (
      both_ok c.explain_rows_by_workers.result _ _ _
          (λ x planned verdicts. there x.plan planned
          ∙ ap Ok (ap (λ vs. record { plan = x.plan; verdicts = vs }) (sym verdicts)))
          (c.explain_rows_by_workers.ensures.planned world told) (rw tests at (c.explain_rows_by_workers.ensures.told world told)),
      IfErr-weaker c.explain_rows_by_workers.result _ _
          (no_plan (g.F.Files.may_fail c.args.files.now) world c.args.metadata.now c.args.request.now found
          (c.in_ok-selected.ensures.found world told)) (c.explain_rows_by_workers.ensures.refused world told),
    )

pub returns-clause-read : goal.returns-clause-read
returns-clause-read g c =
    let gives = g.F.Files.gives c.args.files.now in
    let found = c.in_ok-selected.selected in
    let asked = c.in_ok-selected.ensures.given in
    let columns = columns_in c.args.request.now.filter in
    let found_tests : c.in_ok-tests.tests ≡ ice_filter_tests found.specs found.filter.parts columns = search rules in
    let tests : c.in_ok-tests.tests ≡ tests_for asked.selection c.args.request.now = found_tests
    ∙ ap (λ (specs : List Spec). ice_filter_tests specs found.filter.parts columns) asked.specs_are
    ∙ ap (λ (filter : Bound). ice_filter_tests asked.selection.specs filter.parts columns) asked.filter_is in
    both_ok c.explain_rows_by_workers.result _ _ _
    (λ x told both. record {
      selection = asked.selection;
      rows = found.rows;
      asked = asked.asked;
      listed = asked.listed;
      planned = planned_as_selected gives c.args.metadata.now c.args.request.now found x.plan asked both.1;
      told = told;
      kept = both.0;
    })
    (rw tests at c.explain_rows_by_workers.ensures.read)
    (ok_both c.explain_rows_by_workers.result _ _ c.explain_rows_by_workers.ensures.kept c.explain_rows_by_workers.ensures.given)
