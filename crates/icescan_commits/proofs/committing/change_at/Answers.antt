use Rattle.std.proofs.Common.{sym, ap, ◌∙◌, List, ℕ, Some, subst}
use Rattle.std.specs.Prelude.{Ok}
use Rattle.std.proofs.lemmas.Result.{err_from_is_err_and}
use Rattle.icescan_commits.proofs.Commits.{bad_change, change_is, no_change}
use Rattle.icescan_commits.proofs.committing.change_at.Goals as goal

pub returns-in_err-text-clause-refused : goal.returns-in_err-text-clause-refused
returns-in_err-text-clause-refused g c =
    let p = err_from_is_err_and c.from_residual.result c.from_residual.ensures.1 in
    let f = g.F.Files.may_fail c.args.files.now in
    λ world told.
    let refused = rw c.as_str.ensures at (c.in_err-text.ensures.refused world told) in
    rw (p.1, p.2) (no_change f world c.args.request.now c.in_err-text.field-0.0 refused)

pub returns-in_err-read_change-clause-refused : goal.returns-in_err-read_change-clause-refused
returns-in_err-read_change-clause-refused g c =
    let p = err_from_is_err_and c.from_residual-in_err-read_change.result
    c.from_residual-in_err-read_change.ensures.1 in
    let f = g.F.Files.may_fail c.args.files.now in
    λ world told.
    let found = (rw c.as_str.ensures at (c.in_ok-text.ensures.found world told)) ∙ ap Ok (sym c.deref.ensures.value) in
    rw (p.1, p.2) (bad_change f world c.args.request.now _ found c.in_err-read_change.field-0.0
    c.in_err-read_change.ensures)

pub returns-clause-found : goal.returns-clause-found
returns-clause-found g c =
    let f = g.F.Files.may_fail c.args.files.now in
    λ world told.
    let found = (rw c.as_str.ensures at (c.in_ok-text.ensures.found world told)) ∙ ap Ok (sym c.deref.ensures.value) in
    change_is f world c.args.request.now _ found c.in_ok-read_change.field-0 c.in_ok-read_change.ensures

pub returns-clause-given : goal.returns-clause-given
returns-clause-given g c =
    let gives = g.F.Files.gives c.args.files.now in
    let read = subst (λ (text : List ℕ). gives c.args.request.now.change (Some text)) (sym c.deref.ensures.value)
    (rw c.as_str.ensures at c.in_ok-text.ensures.given) in
    (c.deref.result.now, read, c.in_ok-read_change.ensures)
