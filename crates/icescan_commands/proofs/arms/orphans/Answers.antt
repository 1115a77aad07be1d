use Rattle.std.proofs.Common.{}
use Rattle.icescan_commands.specs.Sources.{failing_unread}
use Rattle.icescan_commands.proofs.Refusals.{untold_ran}
use Rattle.icescan_commands.proofs.arms.orphans.Goals as goal

pub returns-clause-ran : goal.returns-clause-ran
returns-clause-ran g c = untold_ran (failing_unread (g.W.Sink.may_fail c.args.output.now)) c.orphans_file.result _ _
    c.orphans_file.ensures.nothing

pub returns-clause-given : goal.returns-clause-given
returns-clause-given g c =
    let is = c.watched_files-files.ensures in
    rw (is.0, is.1, is.2, c.as_str-table.ensures) at c.orphans_file.ensures.given
