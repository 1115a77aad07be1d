use Rattle.std.proofs.Common.{◌+◌, ◌*◌}
use Rattle.ice_state.proofs.finish.apart.+are_in_gaps_by_workers+fn-are_in_gaps_by_workers-join+arg2+fn-are_in_gaps_by_workers-join+arg3.Given as goal

abbrev pub decreases-are_in_gaps_by_workers : goal.decreases-are_in_gaps_by_workers
decreases-are_in_gaps_by_workers g l = 2 * l.workers

abbrev pub decreases-join+arg2 : goal.decreases-join+arg2
decreases-join+arg2 g l = 2 * l.half + 1

abbrev pub decreases-join+arg3 : goal.decreases-join+arg3
decreases-join+arg3 g l = 2 * l.other_half + 1
