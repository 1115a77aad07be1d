use Rattle.std.proofs.Common.{◌∙◌, ap, map, subst, sym, ℕ, List, Some}
use Rattle.std.specs.Prelude.{Ok}
use Rattle.std.proofs.lemmas.Result.{err_from_is_err_and}
use Rattle.icescan_json.specs.Types.{spec_types}
use Rattle.icescan_requests.specs.GivenPlans.{IsPlanOfGiven}
use Rattle.icescan_requests.proofs.Plans.{no_metadata, no_plan_behind}
use Rattle.icescan_json.proofs.Asked.{refused_typed_at, typed_found_at}
use Rattle.icescan_json.proofs.table_plans.typed_table_at.Goals as goal

pub returns-in_err-metadata-clause-refused : goal.returns-in_err-metadata-clause-refused
returns-in_err-metadata-clause-refused g c =
    let p = err_from_is_err_and c.from_residual.result c.from_residual.ensures.1 in
    λ world told. rw (p.1, p.2)
    (refused_typed_at world c.args.path.now c.args.request.now c.args.workers.count _ c.in_err-metadata.field-0.0
    (no_metadata (g.F.Files.may_fail c.args.files.now) world c.args.path.now c.args.request.now c.args.workers.count
    c.args.workers.some c.args.workers.few c.in_err-metadata.field-0.0
    (c.in_err-metadata.ensures.refused world told)))

pub returns-in_err-planned-clause-refused : goal.returns-in_err-planned-clause-refused
returns-in_err-planned-clause-refused g c =
    let p = err_from_is_err_and c.from_residual-in_err-planned.result c.from_residual-in_err-planned.ensures.1 in
    λ world told.
    let has = c.in_ok-metadata.ensures.found world told ∙ ap Ok (sym c.as_slice-bytes.ensures.value) in
    rw (p.1, p.2)
    (refused_typed_at world c.args.path.now c.args.request.now c.args.workers.count _ c.in_err-planned.field-0.0
    (no_plan_behind (g.F.Files.may_fail c.args.files.now) world c.args.path.now c.args.request.now
    c.args.workers.count c.args.workers.some c.args.workers.few c.as_slice-bytes.result.now has
    c.in_err-planned.field-0.0 (c.in_err-planned.ensures.refused world told)))

pub returns-clause-found : goal.returns-clause-found
returns-clause-found g c =
    let typed = c.in_ok-of.ensures in
    λ world told.
    let has = c.in_ok-metadata.ensures.found world told ∙ ap Ok (sym c.as_slice-bytes.ensures.value) in
    typed_found_at world c.args.path.now c.args.request.now c.args.workers.count c.args.workers.some
    c.args.workers.few c.as_slice-bytes.result.now has c.in_ok-planned.planned.specs c.in_ok-of.field-0
    c.in_ok-planned.ensures.selection (rw typed.plan (c.in_ok-planned.ensures.found world told)) typed.types
    typed.residual

pub returns-clause-given : goal.returns-clause-given
returns-clause-given g c =
    let metadata = c.as_slice-bytes.result.now in
    let read = subst (λ (bytes : List ℕ). g.F.Files.gives c.args.files.now c.args.path.now (Some bytes))
    (sym c.as_slice-bytes.ensures.value) c.in_ok-metadata.ensures.given in
    let asked = c.in_ok-planned.ensures.selection in (
      metadata,
      read,
      record {
        planned = subst (IsPlanOfGiven (g.F.Files.gives c.args.files.now) metadata c.args.request.now)
            (sym c.in_ok-of.ensures.plan) c.in_ok-planned.ensures.given;
        selection = asked.0;
        asked = asked.1;
        types_are = c.in_ok-of.ensures.types ∙ ap (map spec_types) asked.2;
        residual_is = c.in_ok-of.ensures.residual;
      },
    )
