use Rattle.icescan_commands.specs.Sources.{failing_unread}
use Rattle.icescan_commands.proofs.Refusals.{untold_ran}
use Rattle.icescan_commands.proofs.arms.locate.Goals as goal

pub returns-in-Newest-clause-ran : goal.returns-in-Newest-clause-ran
returns-in-Newest-clause-ran g c = untold_ran (failing_unread (g.W.Sink.may_fail c.args.output.now))
    c.locate_folder.result _ _ c.locate_folder.ensures.nothing

pub returns-in-All-clause-ran : goal.returns-in-All-clause-ran
returns-in-All-clause-ran g c = untold_ran (failing_unread (g.W.Sink.may_fail c.args.output.now))
    c.locate_all.result _ _ c.locate_all.ensures.nothing
