use Rattle.std.proofs.Common.{◌+◌, ◌*◌}
use Rattle.icescan_explain.proofs.by_workers.+fn-tell_halves-join+arg2+fn-tell_halves-join+arg3+tell_halves.Given as goal

abbrev pub decreases-tell_halves : goal.decreases-tell_halves
decreases-tell_halves g l = 2 * l.workers

abbrev pub decreases-join+arg2 : goal.decreases-join+arg2
decreases-join+arg2 g l = 2 * l.half + 1

abbrev pub decreases-join+arg3 : goal.decreases-join+arg3
decreases-join+arg3 g l = 2 * l.other_half + 1
