use Rattle.std.proofs.Common.{rules, SFits, w64}
use Rattle.std.proofs.Math.Facts.{to_z-of_z}
use Rattle.icescan_commits.specs.Commits.{receipt_text}
use Rattle.icescan_print.proofs.Writes.{wrote_less, wrote_more}
use Rattle.icescan_commits.proofs.committing.put_receipt.Goals as goal

pub returns-in_err-put_named_long : goal.returns-in_err-put_named_long
unfolding receipt_text
returns-in_err-put_named_long g c =
    let fits : SFits w64 c.args.id = search rules in
    let id = simp to_z-of_z at c.in_err-put_named_long.ensures in
    (wrote_less _ _ _ _ _ _ _ _ c.from_residual.ensures.0 id)

pub returns-in_err-put_named_number : goal.returns-in_err-put_named_number
unfolding receipt_text
returns-in_err-put_named_number g c =
    let fits : SFits w64 c.args.id = search rules in
    let id = simp to_z-of_z at c.in_ok-put_named_long.ensures in
    wrote_more _ _ _ _ _ _ _ _ _ id
    (wrote_less _ _ _ _ _ _ _ _ c.from_residual-in_err-put_named_number.ensures.0 c.in_err-put_named_number.ensures)

pub returns : goal.returns
unfolding receipt_text
returns g c =
    let fits : SFits w64 c.args.id = search rules in
    let id = simp to_z-of_z at c.in_ok-put_named_long.ensures in
    wrote_more _ _ _ _ _ _ _ _ _ id (wrote_more _ _ _ _ _ _ _ _ _ c.in_ok-put_named_number.ensures c.write_all.ensures)
