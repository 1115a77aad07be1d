use Rattle.std.proofs.Common.{◌≡◌, ◌∙◌, ap, arith, length}
use Rattle.icescan_audit_findings.proofs.Hitting.{both_marks, written}
use Rattle.icescan_audit_findings.proofs.reaching.+fn-marks_by_workers-join+arg2+fn-marks_by_workers-join+arg3+marks_by_workers.Goals as goal

pub returns : goal.returns
returns g t c =
    let new = c.mark_too.new.marks in
    let items = c.in_ok-marks.marks.items in
    let first = rw c.in_ok-marks.was at c.join-first.ensures.first in
    let others = rw c.in_ok-others.was at c.join-first.ensures.second in
    let many : length new ≡ length items = c.mark_too.ensures.many ∙ ap length c.deref_mut.ensures.value in
    let whole = written c.in_ok-marks.marks.len new items (omega (arith, c.in_ok-marks.marks.ok)) many in
    let marked = rw (c.deref_mut.ensures.value, c.deref.ensures.value) at c.mark_too.ensures.marked in
    rw whole (both_marks c.args.files.now c.split_at.result.0.now c.split_at.result.1.now c.args.index.now c.args.deletes items c.in_ok-others.others.items new
    c.split_at.ensures.by_index.0 first others many marked)
