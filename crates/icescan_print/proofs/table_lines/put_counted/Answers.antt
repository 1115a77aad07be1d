use Rattle.std.proofs.Common.{rules, SFits, w32}
use Rattle.std.proofs.Math.Facts.{to_z-of_z}
use Rattle.icescan_print.proofs.Sends.{sent_more, sent_less}
use Rattle.icescan_print.proofs.table_lines.put_counted.Goals as goal

pub returns-in_err-put_named_int : goal.returns-in_err-put_named_int
returns-in_err-put_named_int g c =
    let fits : SFits w32 c.args.id = search rules in
    sent_less _ _ _ _ _ _ _ _ _ _ _ c.from_residual.ensures.0 (simp to_z-of_z at c.in_err-put_named_int.ensures)

pub returns-in_err-put_named_number : goal.returns-in_err-put_named_number
returns-in_err-put_named_number g c =
    let fits : SFits w32 c.args.id = search rules in
    sent_more _ _ _ _ _ _ _ _ _ _ _ _ (simp to_z-of_z at c.in_ok-put_named_int.ensures)
    (sent_less _ _ _ _ _ _ _ _ _ _ _ c.from_residual-in_err-put_named_number.ensures.0
    c.in_err-put_named_number.ensures)

pub returns : goal.returns
returns g c =
    let fits : SFits w32 c.args.id = search rules in
    sent_more _ _ _ _ _ _ _ _ _ _ _ _ (simp to_z-of_z at c.in_ok-put_named_int.ensures)
    (sent_more _ _ _ _ _ _ _ _ _ _ _ _ c.in_ok-put_named_number.ensures c.put.ensures)
