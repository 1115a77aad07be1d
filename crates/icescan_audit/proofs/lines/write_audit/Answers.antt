use Rattle.icescan_print.proofs.Sends.{wrote_all_sent}
use Rattle.icescan_audit.proofs.lines.write_audit.Goals as goal

pub returns : goal.returns
returns g c = wrote_all_sent _ _ _ _ _ _ _ _ _ (rw c.requires.page at c.in_ok-put_audit.ensures) c.flush.ensures.wrote
