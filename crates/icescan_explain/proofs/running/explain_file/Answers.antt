use Rattle.std.proofs.Common.{◌≡◌, ◌∙◌, ap, sym, List, ℕ, Some, subst}
use Rattle.std.specs.Prelude.{Err, Ok, []}
use Rattle.icescan_text.specs.declared.fault.RunFault.TheVariants as run
use Rattle.std.proofs.lemmas.Result.{err_from_is_err_and, IfErr-weaker, IfOk-weaker}
use Rattle.icescan_text.proofs.Enough.{in_range}
use Rattle.icescan_explain.proofs.Telling.{ends_behind, explained_behind, no_metadata, no_workers}
use Rattle.icescan_explain.proofs.running.explain_file.Goals as goal

pub returns-in_err-workers-clause-workers : goal.returns-in_err-workers-clause-workers
returns-in_err-workers-clause-workers g c =
    let p = err_from_is_err_and c.from_residual.result c.from_residual.ensures.1 in
    let refused = c.in_err-workers.ensures.refused in
    rw (p.1, p.2) (λ out. ap Err refused.0)

pub returns-in_err-workers-clause-refused : goal.returns-in_err-workers-clause-refused
returns-in_err-workers-clause-refused g c =
    let p = err_from_is_err_and c.from_residual.result c.from_residual.ensures.1 in
    λ world told. rw (p.1, p.2)
    (no_workers (g.F.Files.may_fail c.args.files.now) world c.args.path.now c.args.request.now c.args.workers
    (g.W.Sink.may_fail c.args.output.now) c.in_err-workers.field-0.0 c.in_err-workers.ensures.refused)

pub returns-in_err-workers-clause-text : goal.returns-in_err-workers-clause-text
returns-in_err-workers-clause-text g c =
    let p = err_from_is_err_and c.from_residual.result c.from_residual.ensures.1 in
    let refused = c.in_err-workers.ensures.refused in
    rw (p.1, p.2) (
      [],
      record { all = tt; front = λ is. let no : run.Workers ≡ run.Write = sym refused.0 ∙ cc in absurd cc },
    )

pub returns-in_err-metadata-clause-workers : goal.returns-in_err-metadata-clause-workers
returns-in_err-metadata-clause-workers g c =
    let p = err_from_is_err_and c.from_residual-in_err-metadata.result c.from_residual-in_err-metadata.ensures.1 in
    let given = c.in_ok-workers.ensures.given in
    rw (p.1, p.2) (λ out. absurd (in_range c.args.workers given.1 given.2 out))

pub returns-in_err-metadata-clause-refused : goal.returns-in_err-metadata-clause-refused
returns-in_err-metadata-clause-refused g c =
    let p = err_from_is_err_and c.from_residual-in_err-metadata.result c.from_residual-in_err-metadata.ensures.1 in
    let given = c.in_ok-workers.ensures.given in
    λ world told. rw (p.1, p.2)
    (no_metadata (g.F.Files.may_fail c.args.files.now) world c.args.path.now c.args.request.now c.args.workers given.1
    given.2 (g.W.Sink.may_fail c.args.output.now) c.in_err-metadata.field-0.0
    (c.in_err-metadata.ensures.refused world told))

pub returns-in_err-metadata-clause-text : goal.returns-in_err-metadata-clause-text
returns-in_err-metadata-clause-text g c =
    let p = err_from_is_err_and c.from_residual-in_err-metadata.result c.from_residual-in_err-metadata.ensures.1 in
    rw (p.1, p.2) (
      [],
      record {
        all = tt;
        front = λ is.
            let failed : c.in_err-metadata.field-0.0 ≡ run.Write = cc in
            absurd (c.in_err-metadata.ensures.write (ap Err failed));
      },
    )

pub returns-clause-workers : goal.returns-clause-workers
returns-clause-workers g c =
    let given = c.in_ok-workers.ensures.given in
    λ out. absurd (in_range c.args.workers given.1 given.2 out)

pub returns-clause-written : goal.returns-clause-written
returns-clause-written g c =
    let f = g.F.Files.may_fail c.args.files.now in
    let given = c.in_ok-workers.ensures.given in
    λ world told.
    let has = c.in_ok-metadata.ensures.found world told ∙ ap Ok (sym c.deref.ensures.value) in
    let same = explained_behind f world c.args.path.now c.args.request.now c.args.workers given.1 given.2
    c.deref.result.now has in
    IfOk-weaker c.run_explain_by.result _ _ (λ _ w. (w.0, same ∙ w.1, w.2)) (c.run_explain_by.ensures.written world told)

pub returns-clause-refused : goal.returns-clause-refused
returns-clause-refused g c =
    let f = g.F.Files.may_fail c.args.files.now in
    let given = c.in_ok-workers.ensures.given in
    λ world told.
    let has = c.in_ok-metadata.ensures.found world told ∙ ap Ok (sym c.deref.ensures.value) in
    IfErr-weaker c.run_explain_by.result _ _
    (λ e h. ends_behind f world c.args.path.now c.args.request.now c.args.workers given.1 given.2 c.deref.result.now has
    (g.W.Sink.may_fail c.args.output.now) e h) (c.run_explain_by.ensures.refused world told)

pub returns-clause-front : goal.returns-clause-front
returns-clause-front g c =
    let f = g.F.Files.may_fail c.args.files.now in
    let given = c.in_ok-workers.ensures.given in
    λ world told failed.
    let has = c.in_ok-metadata.ensures.found world told ∙ ap Ok (sym c.deref.ensures.value) in
    let same = explained_behind f world c.args.path.now c.args.request.now c.args.workers given.1 given.2
    c.deref.result.now has in
    let w = c.run_explain_by.ensures.front world told failed in
    (w.0, same ∙ w.1, w.2)

pub returns-clause-text : goal.returns-clause-text
returns-clause-text g c = (c.deref.result.now, c.run_explain_by.ensures.text)

pub returns-clause-given : goal.returns-clause-given
returns-clause-given g c =
    let read = subst (λ (bytes : List ℕ). g.F.Files.gives c.args.files.now c.args.path.now (Some bytes))
    (sym c.deref.ensures.value) c.in_ok-metadata.ensures.given in
    IfOk-weaker c.run_explain_by.result _ _ (λ _ w. (c.deref.result.now, read, w)) c.run_explain_by.ensures.text.all
