use Rattle.std.proofs.Common.{inl, inr}
use Rattle.std.proofs.lemmas.Result.{err_from_is_err_and}
use Rattle.icescan_reachable.proofs.Causes.{of_lacking, of_listed}
use Rattle.icescan_reachable.proofs.Steps.{rows_end, rows_step}
use Rattle.icescan_reachable.proofs.lists.gather_rows.Goals as goal

pub snapshots-init : goal.snapshots-init
snapshots-init g c = λ all h. rw c.new-rows.ensures.items at h

pub snapshots-preserved : goal.snapshots-preserved
snapshots-preserved g c =
    let gives = g.F.Files.gives c.args.files.now in
    let read = c.in_ok-put_rows.ensures.given in
    λ all h. c.snapshots.invariant all (rows_step gives c.args.snapshots.now c.snapshots.snapshot-index
    c.snapshot-item.result c.snapshots-test.true c.snapshot-item.is c.snapshots.rows.items c.in_ok-list.list.now
    c.in_ok-list.ensures.list read.0 read.1 _ all read.2 h)

pub returns-clause-given : goal.returns-clause-given
returns-clause-given g c =
    let gives = g.F.Files.gives c.args.files.now in
    c.snapshots.invariant c.snapshots.rows.items (rows_end gives c.args.snapshots.now c.snapshots.snapshot-index
    c.snapshots.rows.items c.snapshots-test.false)

pub returns-in_err-list-clause-causes : goal.returns-in_err-list-clause-causes
returns-in_err-list-clause-causes g c =
    let p = err_from_is_err_and c.from_residual.result c.from_residual.ensures.1 in
    rw (p.1, p.2) (inl (of_lacking c.args.snapshots.now c.snapshots.snapshot-index c.snapshot-item.result
    c.snapshots-test.true c.snapshot-item.is c.in_err-list.field-0.0 c.in_err-list.ensures.causes))

pub returns-in_err-put_rows-clause-causes : goal.returns-in_err-put_rows-clause-causes
returns-in_err-put_rows-clause-causes g c =
    let p = err_from_is_err_and c.from_residual-in_err-put_rows.result c.from_residual-in_err-put_rows.ensures.1 in
    rw (p.1, p.2) (inr (of_listed (g.F.Files.gives c.args.files.now) (g.F.Files.may_fail c.args.files.now)
    c.args.snapshots.now c.snapshots.snapshot-index c.snapshot-item.result c.snapshots-test.true c.snapshot-item.is
    c.in_ok-list.list.now c.in_ok-list.ensures.list c.in_err-put_rows.field-0.0 c.in_err-put_rows.ensures.causes))
