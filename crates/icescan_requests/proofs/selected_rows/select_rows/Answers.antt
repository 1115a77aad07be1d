use Rattle.std.proofs.Common.{◌≡◌, refl, rules}
use Rattle.std.proofs.lemmas.Result.{err_from_is_err_and}
use Rattle.icescan_requests.proofs.Plans.{no_list, not_asked, request_is_no_write, rows_selected}
use Rattle.icescan_requests.proofs.selected_rows.select_rows.Goals as goal

pub returns-in_err-list-clause-refused : goal.returns-in_err-list-clause-refused
returns-in_err-list-clause-refused g c =
    let p = err_from_is_err_and c.from_residual.result c.from_residual.ensures.1 in
    λ world told. rw (p.1, p.2)
    (not_asked (g.F.Files.may_fail c.args.files.now) world c.args.metadata.now c.args.request.now
    c.in_err-list.field-0.0 c.in_err-list.ensures.causes c.in_err-list.ensures.gives)

pub returns-in_err-list-clause-write : goal.returns-in_err-list-clause-write
returns-in_err-list-clause-write g c =
    let p = err_from_is_err_and c.from_residual.result c.from_residual.ensures.1 in
    rw (p.1, p.2) (λ is. request_is_no_write c.in_err-list.field-0.0 c.in_err-list.ensures.causes cc)

pub returns-in_err-rows-clause-refused : goal.returns-in_err-rows-clause-refused
returns-in_err-rows-clause-refused g c =
    let p = err_from_is_err_and c.from_residual-in_err-rows.result c.from_residual-in_err-rows.ensures.1 in
    let selection = c.in_ok-list.field-0 in
    let list : c.as_str.result.now ≡ selection.list = search rules in
    λ world told.
    let refused = rw list at (c.in_err-rows.ensures.refused world told) in
    rw (p.1, p.2)
    (no_list (g.F.Files.may_fail c.args.files.now) world c.args.metadata.now c.args.request.now selection
    c.in_ok-list.ensures.gives c.in_err-rows.field-0.0 refused)

pub returns-clause-found : goal.returns-clause-found
returns-clause-found g c =
    let selection = c.in_ok-list.field-0 in
    let list : c.as_str.result.now ≡ selection.list = search rules in
    λ world told.
    let has = rw list at (c.in_ok-rows.ensures.found world told) in
    rw c.from_vec.ensures
    (rows_selected (g.F.Files.may_fail c.args.files.now) world c.args.metadata.now c.args.request.now selection
    c.in_ok-list.ensures.gives c.in_ok-rows.rows.items has)

pub returns-clause-given : goal.returns-clause-given
returns-clause-given g c =
    let selection = c.in_ok-list.field-0 in
    let list : c.as_str.result.now ≡ selection.list = search rules in
    let listed = rw list at c.in_ok-rows.ensures.given in
    record {
      selection = selection;
      asked = c.in_ok-list.ensures.gives;
      listed = rw c.from_vec.ensures listed;
      specs_are = refl;
      filter_is = refl;
    }
