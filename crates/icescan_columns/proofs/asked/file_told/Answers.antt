use Rattle.std.proofs.Common.{ap, sym, ◌∙◌, List, ℕ, Some, subst}
use Rattle.std.specs.Prelude.{Ok}
use Rattle.std.proofs.lemmas.Result.{err_from_is_err_and, IfErr-weaker, on_ok_weaker}
use Rattle.icescan_columns.specs.Columns.{told}
use Rattle.icescan_columns.proofs.Reading.{bytes_end, made_there, file_ends}
use Rattle.icescan_columns.proofs.asked.file_told.Goals as goal

pub returns-in_err-metadata-clause-refused : goal.returns-in_err-metadata-clause-refused
returns-in_err-metadata-clause-refused g c =
    let p = err_from_is_err_and c.from_residual.result c.from_residual.ensures.1 in
    λ world known. rw (p.1, p.2) (file_ends (told c.args.asked.now) world c.args.path.now _
    (g.W.Sink.may_fail c.args.output.now) c.in_err-metadata.field-0.0 (c.in_err-metadata.ensures.refused world known))

pub returns-clause-written : goal.returns-clause-written
returns-clause-written g c =
    λ world known.
    let has = c.in_ok-metadata.ensures.found world known ∙ ap Ok (sym c.deref.ensures.value) in
    let same = made_there (told c.args.asked.now) world c.args.path.now c.deref.result.now has in
    on_ok_weaker c.write_told.result (λ w. (w.0, same ∙ w.1, w.2)) c.write_told.ensures.written

pub returns-clause-refused : goal.returns-clause-refused
returns-clause-refused g c =
    λ world known.
    let has = c.in_ok-metadata.ensures.found world known ∙ ap Ok (sym c.deref.ensures.value) in
    IfErr-weaker c.write_told.result _ _ (λ e h.
    bytes_end (told c.args.asked.now) world c.args.path.now c.deref.result.now
    has _ (g.W.Sink.may_fail c.args.output.now) e h) c.write_told.ensures.refused

pub returns-clause-front : goal.returns-clause-front
returns-clause-front g c =
    λ world known failed.
    let has = c.in_ok-metadata.ensures.found world known ∙ ap Ok (sym c.deref.ensures.value) in
    let same = made_there (told c.args.asked.now) world c.args.path.now c.deref.result.now has in
    let w = c.write_told.ensures.front failed in
    (w.0, same ∙ w.1, w.2)

pub returns-clause-given : goal.returns-clause-given
returns-clause-given g c =
    let read = subst (λ (bytes : List ℕ). g.F.Files.gives c.args.files.now c.args.path.now (Some bytes))
    (sym c.deref.ensures.value) c.in_ok-metadata.ensures.given in
    on_ok_weaker c.write_told.result (λ w. (c.deref.result.now, read, w)) c.write_told.ensures.written
