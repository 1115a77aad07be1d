use Rattle.std.proofs.Common.{rules, SFits, w64}
use Rattle.std.proofs.Math.Facts.{to_z-of_z}
use Rattle.icescan_print.specs.TableTexts.{change_text}
use Rattle.icescan_print.proofs.Sends.{sent_more, sent_less}
use Rattle.icescan_print.proofs.table_lines.put_change.Goals as goal

pub returns-in_err-put_named_long : goal.returns-in_err-put_named_long
unfolding change_text
returns-in_err-put_named_long g c =
    let f : SFits w64 c.args.snapshot.now.id = search rules in
    sent_less _ _ _ _ _ _ _ _ _ _ _ c.from_residual.ensures.0 (simp to_z-of_z at c.in_err-put_named_long.ensures)

pub returns-in_err-put_named_number : goal.returns-in_err-put_named_number
unfolding change_text
returns-in_err-put_named_number g c =
    let f : SFits w64 c.args.snapshot.now.id = search rules in
    sent_more _ _ _ _ _ _ _ _ _ _ _ _ (simp to_z-of_z at c.in_ok-put_named_long.ensures)
    (sent_less _ _ _ _ _ _ _ _ _ _ _ c.from_residual-in_err-put_named_number.ensures.0 (rw c.get.ensures.same at
    c.in_err-put_named_number.ensures))

pub returns : goal.returns
unfolding change_text
returns g c =
    let f : SFits w64 c.args.snapshot.now.id = search rules in
    let f2 : SFits w64 c.args.snapshot.now.timestamp_ms = search rules in
    sent_more _ _ _ _ _ _ _ _ _ _ _ _ (simp to_z-of_z at c.in_ok-put_named_long.ensures)
    (sent_more _ _ _ _ _ _ _ _ _ _ _ _ (rw c.get.ensures.same at c.in_ok-put_named_number.ensures)
    (simp to_z-of_z at c.put_named_long-2.ensures))
