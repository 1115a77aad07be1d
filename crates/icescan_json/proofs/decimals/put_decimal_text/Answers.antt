use mir.Val.{SFits}
use Rattle.std.specs.Int.{w128}
use Rattle.std.proofs.lemmas.Int.{to_z-of_z}
use Rattle.icescan_print.proofs.Sends.{sent_less, sent_more}
use Rattle.icescan_json.proofs.Points.{decimal_within}
use Rattle.icescan_json.proofs.decimals.put_decimal_text.Goals as goal

pub returns-in_err-put : goal.returns-in_err-put
returns-in_err-put g c =
    rw (decimal_within c.args.scale c.args.number)
    (sent_less _ _ _ _ _ _ _ _ _ _ _ c.from_residual.ensures.0 c.in_err-put.ensures)

pub returns-in_err-put_escaped : goal.returns-in_err-put_escaped
returns-in_err-put_escaped g c =
    let f : SFits w128 c.args.number = c.ranges.number in
    let sign = simp to_z-of_z at c.minus_if.ensures in
    rw (decimal_within c.args.scale c.args.number)
    (sent_more _ _ _ _ _ _ _ _ _ _ _ _ c.in_ok-put.ensures
    (sent_less _ _ _ _ _ _ _ _ _ _ _ c.from_residual-in_err-put_escaped.ensures.0 (rw sign at
    c.in_err-put_escaped.ensures)))

pub returns-in_err-put_scaled : goal.returns-in_err-put_scaled
returns-in_err-put_scaled g c =
    let f : SFits w128 c.args.number = c.ranges.number in
    let sign = simp to_z-of_z at c.minus_if.ensures in
    let size = simp to_z-of_z at c.unsigned_abs.ensures.value in
    let written = rw size at c.format-digits.ensures.text in
    rw (decimal_within c.args.scale c.args.number)
    (sent_more _ _ _ _ _ _ _ _ _ _ _ _ c.in_ok-put.ensures
    (sent_more _ _ _ _ _ _ _ _ _ _ _ _ (rw sign at c.in_ok-put_escaped.ensures)
    (sent_less _ _ _ _ _ _ _ _ _ _ _ c.from_residual-in_err-put_scaled.ensures.0 (rw (
      c.as_bytes.ensures.value,
      written,
    ) at c.in_err-put_scaled.ensures))))

pub returns : goal.returns
returns g c =
    let f : SFits w128 c.args.number = c.ranges.number in
    let sign = simp to_z-of_z at c.minus_if.ensures in
    let size = simp to_z-of_z at c.unsigned_abs.ensures.value in
    let written = rw size at c.format-digits.ensures.text in
    rw (decimal_within c.args.scale c.args.number)
    (sent_more _ _ _ _ _ _ _ _ _ _ _ _ c.in_ok-put.ensures
    (sent_more _ _ _ _ _ _ _ _ _ _ _ _ (rw sign at c.in_ok-put_escaped.ensures)
    (sent_more _ _ _ _ _ _ _ _ _ _ _ _ (rw (c.as_bytes.ensures.value, written) at c.in_ok-put_scaled.ensures)
    c.put-2.ensures)))
