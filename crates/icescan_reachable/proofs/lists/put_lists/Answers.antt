use Rattle.std.proofs.Common.{}
use Rattle.std.proofs.lemmas.Result.{err_from_is_err_and}
use Rattle.icescan_reachable.proofs.Causes.{of_lacking}
use Rattle.icescan_reachable.proofs.lists.put_lists.Goals as goal

pub returns-in_err-list-clause-causes : goal.returns-in_err-list-clause-causes
returns-in_err-list-clause-causes c =
    let p = err_from_is_err_and c.from_residual.result c.from_residual.ensures.1 in
    rw (p.1, p.2) (of_lacking c.args.snapshots.now c.snapshots.snapshot-index c.snapshot-item.result
    c.snapshots-test.true c.snapshot-item.is c.in_err-list.field-0.0 c.in_err-list.ensures.causes)
