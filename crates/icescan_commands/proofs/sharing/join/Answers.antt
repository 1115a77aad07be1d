use Rattle.icescan_commands.specs.Sources.{failing_unread}
use Rattle.icescan_commands.proofs.Refusals.{untold_ran}
use Rattle.icescan_commands.proofs.sharing.join.Goals as goal

pub returns-clause-ran : goal.returns-clause-ran
returns-clause-ran g c = untold_ran (failing_unread (g.W.Sink.may_fail c.args.output.now)) c.join_files.result _ _
    c.join_files.ensures.nothing
