use Rattle.std.proofs.Common.{◌+◌, ◌*◌, vec_len}
use Rattle.icescan_drill.proofs.drilling.+drill_all+fn-drill_all-join+arg2+fn-drill_all-join+arg3.Given as goal

abbrev pub decreases-join+arg2 : goal.decreases-join+arg2
decreases-join+arg2 g l = 2 * vec_len l.seats + 1

abbrev pub decreases-join+arg3 : goal.decreases-join+arg3
decreases-join+arg3 g l = 2 * vec_len l.right + 1

abbrev pub decreases-drill_all : goal.decreases-drill_all
decreases-drill_all g l = 2 * vec_len l.seats
