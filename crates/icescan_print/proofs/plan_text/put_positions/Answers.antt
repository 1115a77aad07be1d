use Rattle.std.proofs.Common.{◌≤◌, add-one, length}
use Rattle.icescan_print.specs.PlanTexts.{position_text}
use Rattle.icescan_print.proofs.Sends.{flat_all, flat_cut, flat_next, sent_less, sent_more, sent_none}
use Rattle.icescan_print.proofs.plan_text.put_positions.Goals as goal

pub loop-i-init : goal.loop-i-init
loop-i-init g c = sent_none _ _ _ _ _

pub returns-in_err-put_position : goal.returns-in_err-put_position
returns-in_err-put_position g c =
    rw (flat_cut position_text c.args.files.now c.loop-i.i c.file.result c.file.ensures)
    (sent_more _ _ _ _ _ _ _ _ _ _ _ _ c.loop-i.invariant
    (sent_less _ _ _ _ _ _ _ _ _ _ _ c.from_residual.ensures.0 c.in_err-put_position.ensures))

pub loop-i-preserved : goal.loop-i-preserved
loop-i-preserved g c =
    rw (add-one, flat_next position_text c.args.files.now c.loop-i.i c.file.result c.file.ensures)
    (sent_more _ _ _ _ _ _ _ _ _ _ _ _ c.loop-i.invariant c.in_ok-put_position.ensures)

pub returns : goal.returns
returns g c =
    let low : length c.args.files.now ≤ c.loop-i.i = rw c.len-i-end.ensures.counted at c.loop-i-test.false in
    rw (flat_all position_text c.args.files.now c.loop-i.i low) at c.loop-i.invariant
