use Rattle.std.proofs.Common.{rules, SFits, w64}
use Rattle.std.proofs.Math.Facts.{to_z-of_z}
use Rattle.icescan_print.specs.TableTexts.{ref_line}
use Rattle.icescan_print.proofs.Sends.{sent_more, sent_less}
use Rattle.icescan_print.proofs.table_lines.RefTableLine.put_line.Goals as goal

pub returns-in_err-put_named_path : goal.returns-in_err-put_named_path
unfolding ref_line
returns-in_err-put_named_path g c = sent_less _ _ _ _ _ _ _ _ _ _ _ c.from_residual.ensures.0 (rw c.as_bytes.ensures at
    c.in_err-put_named_path.ensures)

pub returns-in_err-put_named_long : goal.returns-in_err-put_named_long
unfolding ref_line
returns-in_err-put_named_long g c =
    let fits : SFits w64 c.args.self.now.snapshot_id = search rules in
    sent_more _ _ _ _ _ _ _ _ _ _ _ _ (rw c.as_bytes.ensures at c.in_ok-put_named_path.ensures)
    (sent_less _ _ _ _ _ _ _ _ _ _ _ c.from_residual-in_err-put_named_long.ensures.0 (rw c.kind_name.ensures at
    (simp to_z-of_z at c.in_err-put_named_long.ensures)))

pub returns : goal.returns
unfolding ref_line
returns g c =
    let fits : SFits w64 c.args.self.now.snapshot_id = search rules in
    sent_more _ _ _ _ _ _ _ _ _ _ _ _ (rw c.as_bytes.ensures at c.in_ok-put_named_path.ensures)
    (sent_more _ _ _ _ _ _ _ _ _ _ _ _ (rw c.kind_name.ensures at (simp to_z-of_z at c.in_ok-put_named_long.ensures))
    c.put.ensures)
