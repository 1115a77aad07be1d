use Rattle.std.proofs.Common.{arith}
use Rattle.icescan_shares.specs.Shares.{total_weight}
use Rattle.icescan_shares.proofs.Sharing.{many_shares, shares_in}
use Rattle.icescan_shares.proofs.laws.sharing_out.Goals as goal

pub returns-clause-each : goal.returns-clause-each
returns-clause-each c = λ count rows. many_shares count (total_weight rows) 0 rows

pub returns-clause-one : goal.returns-clause-one
returns-clause-one c = λ count rows i some l. shares_in count (total_weight rows) 0 rows i some (omega arith) l
