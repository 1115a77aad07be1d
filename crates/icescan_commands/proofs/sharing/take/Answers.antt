use Rattle.std.proofs.Common.{refl}
use Rattle.std.proofs.lemmas.Result.{err_from_is_err_and}
use Rattle.std.specs.Prelude.{Err}
use Rattle.icescan_commands.specs.Runs.{ended}
use Rattle.icescan_commands.specs.Sources.{failing_unread}
use Rattle.icescan_commands.proofs.Reading.{taken_below}
use Rattle.icescan_commands.proofs.Refusals.{untold_ran}
use Rattle.icescan_commands.proofs.sharing.take.Goals as goal

pub returns-in_err-files-clause-ran : goal.returns-in_err-files-clause-ran
returns-in_err-files-clause-ran g c =
    let p = err_from_is_err_and c.from_residual.result c.from_residual.ensures.1 in
    rw (p.1, p.2) (untold_ran (failing_unread (g.W.Sink.may_fail c.args.output.now)) (Err c.in_err-files.field-0.0) _ _
    (λ other. refl))

pub returns-clause-ran : goal.returns-clause-ran
returns-clause-ran g c = untold_ran (failing_unread (g.W.Sink.may_fail c.args.output.now))
    (ended c.write_taken.result) _ _ c.write_taken.ensures.nothing

pub returns-clause-given : goal.returns-clause-given
returns-clause-given g c =
    let path = c.as_str-path.result.now in
    let wrote = taken_below (g.S.Folders.gives c.args.system.now.folders.now) c.args.table.now.source.now _
    c.in_ok-files.ensures.given path c.args.asked.now c.args.share c.args.workers (ended c.write_taken.result) _ _
    c.write_taken.ensures.given in
    rw c.as_str-path.ensures at wrote
