use Rattle.std.proofs.lemmas.Result.{err_from_is_err_and}
use Rattle.icescan_commands.proofs.Answering.{text_failed, text_ran}
use Rattle.icescan_commands.proofs.arms.tell.Goals as goal

pub returns-in_err-write_all : goal.returns-in_err-write_all
returns-in_err-write_all g c =
    let p = err_from_is_err_and c.from_residual.result c.from_residual.ensures.1 in
    let front = rw c.as_bytes.ensures at c.in_err-write_all.ensures.front in
    rw (p.1, p.2) (text_failed c.args.text.now (g.W.Sink.may_fail c.args.output.now) _ _
    c.in_err-write_all.ensures.cause front)

pub returns : goal.returns
returns g c =
    let all = rw c.as_bytes.ensures at c.in_ok-write_all.ensures.all in
    text_ran c.args.text.now (g.W.Sink.may_fail c.args.output.now) _ _ all
