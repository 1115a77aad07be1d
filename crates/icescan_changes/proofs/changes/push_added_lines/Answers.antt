use Rattle.std.proofs.Common.{◌≤◌, length}
use Rattle.icescan_changes.specs.declared.changes.Change.TheVariants as change
use Rattle.icescan_changes.proofs.Walking.{tell_more, told_to_end}
use Rattle.icescan_changes.proofs.changes.push_added_lines.Goals as goal

pub loop-i-preserved : goal.loop-i-preserved
loop-i-preserved c = tell_more change.Added c.args.lines.now c.loop-i.i c.line.result c.loop-i.changes.items _ _
    c.line.ensures c.in_ok-push.ensures.items c.loop-i.invariant

pub returns : goal.returns
returns c =
    let low : length c.args.lines.now ≤ c.loop-i.i = rw c.len-i-end.ensures.counted at c.loop-i-test.false in
    told_to_end change.Added c.args.lines.now c.loop-i.i c.loop-i.changes.items _ low c.loop-i.invariant
