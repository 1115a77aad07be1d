use mir.Val.{SFits}
use Rattle.std.proofs.Common.{w64}
use Rattle.std.specs.Prelude.{unsigned_abs}
use Rattle.std.proofs.lemmas.Int.{to_z-of_z}
use Rattle.icescan_json.specs.Dates.{year_digits, year_sign}
use Rattle.icescan_print.proofs.Sends.{sent_less, sent_more}
use Rattle.icescan_forms.proofs.Escapes.{escape_append}
use Rattle.icescan_json.proofs.dates.put_year.Goals as goal

pub returns-in_err-put_escaped : goal.returns-in_err-put_escaped
returns-in_err-put_escaped g c =
    let f : SFits w64 c.args.year = c.ranges.year in
    let sign = simp to_z-of_z at c.year_sign.ensures in
    rw (escape_append (year_sign c.args.year) (year_digits (unsigned_abs c.args.year)))
    (sent_less _ _ _ _ _ _ _ _ _ _ _ c.from_residual.ensures.0 (rw sign at c.in_err-put_escaped.ensures))

pub returns : goal.returns
returns g c =
    let f : SFits w64 c.args.year = c.ranges.year in
    let sign = simp to_z-of_z at c.year_sign.ensures in
    let size = simp to_z-of_z at c.unsigned_abs.ensures.value in
    rw (escape_append (year_sign c.args.year) (year_digits (unsigned_abs c.args.year)))
    (sent_more _ _ _ _ _ _ _ _ _ _ _ _ (rw sign at c.in_ok-put_escaped.ensures) (rw size at c.put_year_digits.ensures))
