use Rattle.icescan_print.proofs.Kept.{none_told}
use Rattle.icescan_print.proofs.Sends.{sent_none}
use Rattle.icescan_print.proofs.made_deletes.put_made_deletes.Goals as goal

pub returns-then-lack_deletes-clause-sent : goal.returns-then-lack_deletes-clause-sent
returns-then-lack_deletes-clause-sent g c line is =
    rw (none_told c.args.lines.now c.args.i line (c.lack_deletes.ensures c.if-lack_deletes.true) is)
    (sent_none _ _ _ _ _)
