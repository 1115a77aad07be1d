use Rattle.icescan_print.proofs.Sends.{sent_less, sent_more}
use Rattle.icescan_json.proofs.Points.{point_before}
use Rattle.icescan_json.proofs.decimals.put_behind.Goals as goal

pub returns-in_err-put_escaped : goal.returns-in_err-put_escaped
returns-in_err-put_escaped g c = rw (point_before c.args.scale c.args.digits.now c.requires.many)
    (sent_less _ _ _ _ _ _ _ _ _ _ _ c.from_residual.ensures.0 c.in_err-put_escaped.ensures)

pub returns-in_err-put_escaped-2 : goal.returns-in_err-put_escaped-2
returns-in_err-put_escaped-2 g c = rw (point_before c.args.scale c.args.digits.now c.requires.many)
    (sent_more _ _ _ _ _ _ _ _ _ _ _ _ c.in_ok-put_escaped.ensures
    (sent_less _ _ _ _ _ _ _ _ _ _ _ c.from_residual-in_err-put_escaped-2.ensures.0
    (rw c.zeros.ensures at c.in_err-put_escaped-2.ensures)))

pub returns : goal.returns
returns g c = rw (point_before c.args.scale c.args.digits.now c.requires.many)
    (sent_more _ _ _ _ _ _ _ _ _ _ _ _ c.in_ok-put_escaped.ensures
    (sent_more _ _ _ _ _ _ _ _ _ _ _ _ (rw c.zeros.ensures at c.in_ok-put_escaped-2.ensures) c.put_escaped-3.ensures))
