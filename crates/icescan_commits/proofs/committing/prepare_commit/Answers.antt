use Rattle.std.proofs.Common.{sym, ap, ◌∙◌, List, ℕ, Some, subst}
use Rattle.std.specs.Prelude.{Ok}
use Rattle.std.proofs.lemmas.Result.{err_from_is_err_and, IfOk-weaker}
use Rattle.icescan_commits.proofs.Commits.{asked_is, no_metadata, not_asked}
use Rattle.icescan_commits.proofs.committing.prepare_commit.Goals as goal

pub returns-in_err-bytes-clause-refused : goal.returns-in_err-bytes-clause-refused
returns-in_err-bytes-clause-refused g c =
    let p = err_from_is_err_and c.from_residual.result c.from_residual.ensures.1 in
    let f = g.F.Files.may_fail c.args.files.now in
    λ world told.
    let refused = rw c.as_str.ensures at (c.in_err-bytes.ensures.refused world told) in
    rw (p.1, p.2) (no_metadata f world c.args.request.now c.in_err-bytes.field-0.0 refused)

pub returns-in_err-change-clause-refused : goal.returns-in_err-change-clause-refused
returns-in_err-change-clause-refused g c =
    let p = err_from_is_err_and c.from_residual-in_err-change.result c.from_residual-in_err-change.ensures.1 in
    let f = g.F.Files.may_fail c.args.files.now in
    λ world told.
    let has = rw c.as_str.ensures at (c.in_ok-bytes.ensures.found world told) in
    rw (p.1, p.2) (not_asked f world c.args.request.now _ has c.in_err-change.field-0.0
    (c.in_err-change.ensures.refused world told))

pub returns-clause-prepared : goal.returns-clause-prepared
returns-clause-prepared g c =
    let f = g.F.Files.may_fail c.args.files.now in
    λ world told.
    let has = (rw c.as_str.ensures at (c.in_ok-bytes.ensures.found world told)) ∙ ap Ok (sym c.deref.ensures.value) in
    let is = asked_is f world c.args.request.now _ has c.in_ok-change.change (c.in_ok-change.ensures.found world
    told) in
    rw is (c.prepare_from.ensures.prepared world told)

pub returns-clause-refused : goal.returns-clause-refused
returns-clause-refused g c =
    let f = g.F.Files.may_fail c.args.files.now in
    λ world told.
    let has = (rw c.as_str.ensures at (c.in_ok-bytes.ensures.found world told)) ∙ ap Ok (sym c.deref.ensures.value) in
    let is = asked_is f world c.args.request.now _ has c.in_ok-change.change (c.in_ok-change.ensures.found world
    told) in
    rw is (c.prepare_from.ensures.refused world told)

pub returns-clause-given : goal.returns-clause-given
returns-clause-given g c =
    let gives = g.F.Files.gives c.args.files.now in
    let read = subst (λ (bytes : List ℕ). gives c.args.request.now.metadata (Some bytes)) (sym c.deref.ensures.value)
    (rw c.as_str.ensures at c.in_ok-bytes.ensures.given) in
    IfOk-weaker c.prepare_from.result _ _ (λ _ made. (
      made.0,
      record {
        bytes = c.deref.result.now;
        read = read;
        change = c.in_ok-change.change;
        asked = c.in_ok-change.ensures.given;
        committed = made.1;
      },
      made.2,
    )) c.prepare_from.ensures.given
