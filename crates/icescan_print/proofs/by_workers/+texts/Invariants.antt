use Rattle.std.proofs.Common.{◌*◌, ◌+◌, length}
use Rattle.icescan_print.proofs.by_workers.+texts.Given as goal

abbrev pub decreases-make_texts : goal.decreases-make_texts
decreases-make_texts g l = 3 * length l.drafts.now

abbrev pub decreases-make_beside : goal.decreases-make_beside
decreases-make_beside g l = 3 * length l.others.now + 2

abbrev pub decreases-make_beside-back : goal.decreases-make_beside-back
decreases-make_beside-back g l = 3 * length l.others.now + 1
