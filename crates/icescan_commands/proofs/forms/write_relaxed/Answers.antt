use Rattle.std.proofs.lemmas.Result.{err_from_is_err_and}
use Rattle.std.specs.Prelude.{Err, Ok}
use Rattle.icescan_commands.proofs.Relaxing.{as_relaxed, not_relaxed}
use Rattle.icescan_commands.proofs.forms.write_relaxed.Goals as goal

pub returns-in_err-made-clause-answers : goal.returns-in_err-made-clause-answers
returns-in_err-made-clause-answers g c =
    let p = err_from_is_err_and c.from_residual.result c.from_residual.ensures.1 in
    λ world told. rw (p.1, p.2) (not_relaxed (g.F.Files.may_fail c.args.files.now) world c.args.path.now
    c.args.request.now c.args.what c.args.format c.args.workers (g.W.Sink.may_fail c.args.output.now)
    (g.W.Sink.taken c.args.output.now) c.in_err-made.field-0.0 (c.in_err-made.ensures.answer world told).1)

pub returns-in_err-write_asked-clause-answers : goal.returns-in_err-write_asked-clause-answers
returns-in_err-write_asked-clause-answers g c =
    let p = err_from_is_err_and c.from_residual-in_err-write_asked.result
    c.from_residual-in_err-write_asked.ensures.1 in
    λ world told. rw (p.1, p.2) (as_relaxed (g.F.Files.may_fail c.args.files.now) world c.args.path.now
    c.args.request.now c.args.what c.args.format c.args.workers c.in_ok-made.made
    (c.in_ok-made.ensures.answer world told).0 (g.W.Sink.may_fail c.args.output.now)
    (Err c.in_err-write_asked.field-0.0) _ _ (c.in_err-write_asked.ensures.answers world told))

pub returns-clause-answers : goal.returns-clause-answers
returns-clause-answers g c = λ world told. as_relaxed (g.F.Files.may_fail c.args.files.now) world c.args.path.now
    c.args.request.now c.args.what c.args.format c.args.workers c.in_ok-made.made
    (c.in_ok-made.ensures.answer world told).0 (g.W.Sink.may_fail c.args.output.now) (Ok tt) _ _
    (c.in_ok-write_asked.ensures.answers world told)

pub returns-clause-given : goal.returns-clause-given
returns-clause-given g c =
    let given = c.in_ok-made.ensures.given in
    (given.0, c.in_ok-made.made, given.1, given.2, c.in_ok-write_asked.ensures.given)
