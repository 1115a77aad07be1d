use Rattle.std.proofs.Common.{length}
use Rattle.ice_state.proofs.finish.apart.is_in_order.Given as goal

abbrev pub decreases-words : goal.decreases-words
decreases-words l = length l.rest
