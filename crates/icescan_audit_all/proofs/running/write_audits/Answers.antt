use Rattle.std.proofs.Common.{}
use Rattle.std.proofs.lemmas.Result.{err_from_is_err_and}
use Rattle.icescan_audit.proofs.AnyFiles.{writes_stop}
use Rattle.icescan_audit_all.proofs.running.write_audits.Goals as goal

pub returns-in_err-audits-clause-refusal : goal.returns-in_err-audits-clause-refusal
returns-in_err-audits-clause-refusal g c =
    let p = err_from_is_err_and c.from_residual.result c.from_residual.ensures.1 in
    rw (p.1, p.2)
    (writes_stop (g.F.Files.world c.args.files.now) (g.F.Files.may_fail c.args.files.now)
    (g.W.Sink.may_fail c.args.output.now) c.in_err-audits.field-0.0 c.in_err-audits.ensures.stops)
