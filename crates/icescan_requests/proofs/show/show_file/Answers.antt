use Rattle.std.proofs.Common.{ap, sym, ◌∙◌, List, ℕ, Some, subst}
use Rattle.std.specs.Prelude.{Ok}
use Rattle.std.proofs.lemmas.Result.{err_from_is_err_and, IfOk-weaker, IfErr-weaker}
use Rattle.icescan_requests.proofs.Shows.{bytes_end, file_ends, shown_there}
use Rattle.icescan_requests.proofs.show.show_file.Goals as goal

pub returns-in_err-bytes-clause-refused : goal.returns-in_err-bytes-clause-refused
returns-in_err-bytes-clause-refused g c =
    let p = err_from_is_err_and c.from_residual.result c.from_residual.ensures.1 in
    λ world told. rw (p.1, p.2) (file_ends world c.args.path.now _ (g.W.Sink.may_fail c.args.output.now)
    c.in_err-bytes.field-0.0 (c.in_err-bytes.ensures.refused world told))

pub returns-clause-written : goal.returns-clause-written
returns-clause-written g c =
    λ world told.
    let has = c.in_ok-bytes.ensures.found world told ∙ ap Ok (sym c.deref.ensures.value) in
    let same = shown_there world c.args.path.now c.deref.result.now has in
    IfOk-weaker c.run_show.result _ _ (λ _ w. (w.0, same ∙ w.1, w.2)) c.run_show.ensures.written

pub returns-clause-refused : goal.returns-clause-refused
returns-clause-refused g c =
    λ world told.
    let has = c.in_ok-bytes.ensures.found world told ∙ ap Ok (sym c.deref.ensures.value) in
    IfErr-weaker c.run_show.result _ _ (λ e h. bytes_end world c.args.path.now c.deref.result.now has _
    (g.W.Sink.may_fail c.args.output.now) e h) c.run_show.ensures.refused

pub returns-clause-front : goal.returns-clause-front
returns-clause-front g c =
    λ world told failed.
    let has = c.in_ok-bytes.ensures.found world told ∙ ap Ok (sym c.deref.ensures.value) in
    let same = shown_there world c.args.path.now c.deref.result.now has in
    let w = c.run_show.ensures.front failed in
    (w.0, same ∙ w.1, w.2)

pub returns-clause-given : goal.returns-clause-given
returns-clause-given g c =
    let read = subst (λ (bytes : List ℕ). g.F.Files.gives c.args.files.now c.args.path.now (Some bytes))
    (sym c.deref.ensures.value) c.in_ok-bytes.ensures.given in
    IfOk-weaker c.run_show.result _ _ (λ _ w. (c.deref.result.now, read, w)) c.run_show.ensures.written
