use Rattle.icescan_print.proofs.Sends.{sent_less, sent_more}
use Rattle.icescan_json.proofs.values.put_hex.Goals as goal

pub returns-in_err-put : goal.returns-in_err-put
returns-in_err-put g c = sent_less _ _ _ _ _ _ _ _ _ _ _ c.from_residual.ensures.0 c.in_err-put.ensures

pub returns-in_err-put_digits : goal.returns-in_err-put_digits
returns-in_err-put_digits g c = sent_more _ _ _ _ _ _ _ _ _ _ _ _ c.in_ok-put.ensures
    (sent_less _ _ _ _ _ _ _ _ _ _ _ c.from_residual-in_err-put_digits.ensures.0 c.in_err-put_digits.ensures)

pub returns : goal.returns
returns g c = sent_more _ _ _ _ _ _ _ _ _ _ _ _ c.in_ok-put.ensures (sent_more _ _ _ _ _ _ _ _ _ _ _ _
    c.in_ok-put_digits.ensures c.put-2.ensures)
