use Rattle.icescan_print.proofs.Escapes.{back, only}
use Rattle.icescan_print.proofs.unescaping.escaping.Goals as goal

pub returns : goal.returns
returns c = record { back = back; only = only }
