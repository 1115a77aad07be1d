use Rattle.icescan_print.proofs.Writes.{wrote_more}
use Rattle.icescan_print.proofs.pieces.put_named_number.Goals as goal

pub returns : goal.returns
returns g c = wrote_more _ _ _ _ _ _ _ _ _ c.in_ok-write_all.ensures c.put_number.ensures
