use Rattle.std.proofs.Common.{◌∙◌, sym}
use Rattle.std.proofs.lemmas.Result.{err_from_is_err_and, IfErr-weaker, IfOk-weaker}
use Rattle.icescan_requests.proofs.Listed.{no_listed_plan, no_listed_rows, listed_there, same_listed}
use Rattle.icescan_requests.proofs.list_plans.plan_list.Goals as goal

pub returns-in_err-rows-clause-refused : goal.returns-in_err-rows-clause-refused
returns-in_err-rows-clause-refused g c =
    let p = err_from_is_err_and c.from_residual.result c.from_residual.ensures.1 in
    λ world told. rw (p.1, p.2)
    (no_listed_rows (g.F.Files.may_fail c.args.files.now) world c.args.list.now c.in_err-rows.field-0.0
    (c.in_err-rows.ensures.refused world told))

pub returns-clause-found : goal.returns-clause-found
returns-clause-found g c =
    let rows = c.in_ok-rows.rows.items in
    λ world told.
    let has = c.in_ok-rows.ensures.found world told in
    let same = same_listed c.filtering.ensures.open_where_unpartitioned c.filtering.ensures.sound
    c.covering_without_fields.ensures c.unfiltered.ensures.plans world rows in
    let there = listed_there (g.F.Files.may_fail c.args.files.now) world c.args.list.now rows has ∙ sym same in
    let ran = rw (c.in_ok-specs_of.ensures, c.deref.ensures.value, c.from_vec.ensures, c.always.ensures.parts)
    at (c.plan_rows.ensures.answer world told).0 in
    IfOk-weaker c.plan_rows.result _ _ (λ plan is. there ∙ is) ran

pub returns-clause-refused : goal.returns-clause-refused
returns-clause-refused g c =
    let rows = c.in_ok-rows.rows.items in
    λ world told.
    let has = c.in_ok-rows.ensures.found world told in
    let same = same_listed c.filtering.ensures.open_where_unpartitioned c.filtering.ensures.sound
    c.covering_without_fields.ensures c.unfiltered.ensures.plans world rows in
    let ran = rw (c.in_ok-specs_of.ensures, c.deref.ensures.value, c.from_vec.ensures, c.always.ensures.parts)
    at (c.plan_rows.ensures.answer world told).1 in
    IfErr-weaker c.plan_rows.result _ _
    (no_listed_plan (g.F.Files.may_fail c.args.files.now) world c.args.list.now rows has same) ran

pub returns-clause-given : goal.returns-clause-given
returns-clause-given g c =
    let ran = rw (c.in_ok-specs_of.ensures, c.deref.ensures.value, c.from_vec.ensures, c.always.ensures.parts)
    at c.plan_rows.ensures.given in
    IfOk-weaker c.plan_rows.result _ _ (λ plan is. record {
      rows = c.in_ok-rows.rows.items;
      listed = c.in_ok-rows.ensures.given;
      planned = is;
    }) ran
