use Rattle.std.proofs.Common.{◌≤◌, length}
use Rattle.icescan_changes.specs.JsonLines.{delete_object}
use Rattle.icescan_print.proofs.Sends.{flat_all}
use Rattle.icescan_changes.proofs.Walking.{text_more}
use Rattle.icescan_changes.proofs.json_lines.push_deletes.Goals as goal

pub loop-i-preserved : goal.loop-i-preserved
loop-i-preserved c = text_more (delete_object c.args.kind c.args.became.now c.args.owner.now) c.args.files.now
    c.loop-i.i c.file.result c.args.lines.now c.loop-i.lines _ c.file.ensures c.loop-i.invariant
    c.in_ok-push_delete.ensures

pub returns : goal.returns
returns c =
    let low : length c.args.files.now ≤ c.loop-i.i = rw c.len-i-end.ensures.counted at c.loop-i-test.false in
    rw (flat_all (delete_object c.args.kind c.args.became.now c.args.owner.now) c.args.files.now c.loop-i.i low)
    at c.loop-i.invariant
