use Rattle.std.proofs.Common.{length}
use Rattle.icescan_shares.proofs.joining.+join_rest.Given as goal

abbrev pub decreases-join_rest : goal.decreases-join_rest
decreases-join_rest g l = length l.paths.now
