use Rattle.std.proofs.Common.{◌≤◌, ◌⊎◌, arith, inl, inr, length}
use Rattle.icescan_changes.specs.Changes.{line_changes, line_path, lines_told}
use Rattle.icescan_changes.specs.declared.changes.Change.TheVariants as change
use Rattle.icescan_changes.proofs.Walking.{walk_ends, walk_on}
use Rattle.icescan_changes.proofs.changes.line_changes.Goals as goal
use Rattle.icescan_changes.proofs.changes.line_changes.Goals.{then-lines-test+else-j-len, else-lines-test}

pub lines-preserved : goal.lines-preserved
lines-preserved c =
    let earlier = c.args.earlier.now in
    let later = c.args.later.now in
    rw (c.past_earlier-i.ensures, c.past_later-j.ensures)
    (walk_on line_path change.Removed change.Added lines_told earlier later c.lines.i c.lines.j c.line.result
    c.line-in-lines.result c.in_ok-order.order c.lines.changes.items c.push_first_lines.new.changes.items
    (line_changes earlier later) c.line.ensures c.line-in-lines.ensures c.in_ok-order.ensures.order
    c.in_ok-order.ensures.told c.lines.invariant)

pub returns : goal.returns
returns c =
    let earlier = c.args.earlier.now in
    let later = c.args.later.now in
    let ended : (length earlier ≤ c.lines.i) ⊎ (length later ≤ c.lines.j) = elim c.lines-test.branch [
      | then-lines-test+else-j-len w ↦ inr (omega (arith, w.if-j-len.false, w.len-in-lines.ensures.counted))
      | else-lines-test w ↦ inl (omega (arith, w.lines-test.false, c.len.ensures.counted))
    ] in
    walk_ends line_path change.Removed change.Added lines_told earlier later c.lines.i c.lines.j c.lines.changes.items
    c.push_removed_lines.new.changes.items c.push_added_lines.new.changes.items (line_changes earlier later) ended
    c.in_ok-push_removed_lines.ensures c.in_ok-push_added_lines.ensures c.lines.invariant
