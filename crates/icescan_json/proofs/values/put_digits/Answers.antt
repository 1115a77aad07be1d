use Rattle.std.proofs.Common.{◌<◌, arith, length}
use Rattle.icescan_print.proofs.Sends.{sent_less, sent_more}
use Rattle.icescan_json.proofs.Escapes.{hex_next, hex_cut}
use Rattle.icescan_json.proofs.values.put_digits.Goals as goal

pub returns-in_err-put_escaped : goal.returns-in_err-put_escaped
returns-in_err-put_escaped g c =
    let l : c.loop-byte.byte-index < length c.args.bytes.now = omega arith in
    rw (hex_cut c.args.bytes.now c.loop-byte.byte-index l) (sent_more _ _ _ _ _ _ _ _ _ _ _ _ c.loop-byte.invariant
    (sent_less _ _ _ _ _ _ _ _ _ _ _ c.from_residual.ensures.0
    (rw (c.hex_digit.ensures, c.hex_digit-in-loop-byte.ensures) at c.in_err-put_escaped.ensures)))

pub loop-byte-preserved : goal.loop-byte-preserved
loop-byte-preserved g c =
    let l : c.loop-byte.byte-index < length c.args.bytes.now = omega arith in
    rw (hex_next c.args.bytes.now c.loop-byte.byte-index l) (sent_more _ _ _ _ _ _ _ _ _ _ _ _ c.loop-byte.invariant
    (rw (c.hex_digit.ensures, c.hex_digit-in-loop-byte.ensures) at c.in_ok-put_escaped.ensures))
