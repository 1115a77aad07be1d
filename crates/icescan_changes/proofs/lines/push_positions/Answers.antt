use Rattle.std.proofs.Common.{◌≤◌, length}
use Rattle.icescan_print.specs.PlanTexts.{position_text}
use Rattle.icescan_print.proofs.Sends.{flat_all}
use Rattle.icescan_changes.proofs.Walking.{text_more}
use Rattle.icescan_changes.proofs.lines.push_positions.Goals as goal

pub loop-i-preserved : goal.loop-i-preserved
unfolding position_text
loop-i-preserved c = text_more position_text c.args.files.now c.loop-i.i c.file.result c.args.text.now.items
    c.loop-i.text.items _ c.file.ensures c.loop-i.invariant c.in_ok-push_position.ensures

pub returns : goal.returns
returns c =
    let low : length c.args.files.now ≤ c.loop-i.i = rw c.len-i-end.ensures.counted at c.loop-i-test.false in
    rw (flat_all position_text c.args.files.now c.loop-i.i low) at c.loop-i.invariant
