use Rattle.icescan_print.proofs.Sends.{sent_less, sent_more}
use Rattle.icescan_forms.proofs.pieces.put_quoted.Goals as goal

pub returns-in_err-put : goal.returns-in_err-put
returns-in_err-put g c = sent_less _ _ _ _ _ _ _ _ _ _ _ c.from_residual.ensures.0 c.in_err-put.ensures

pub returns-in_err-put_escaped : goal.returns-in_err-put_escaped
returns-in_err-put_escaped g c = sent_more _ _ _ _ _ _ _ _ _ _ _ _ c.in_ok-put.ensures
    (sent_less _ _ _ _ _ _ _ _ _ _ _ c.from_residual-in_err-put_escaped.ensures.0 c.in_err-put_escaped.ensures)

pub returns : goal.returns
returns g c = sent_more _ _ _ _ _ _ _ _ _ _ _ _ c.in_ok-put.ensures (sent_more _ _ _ _ _ _ _ _ _ _ _ _
    c.in_ok-put_escaped.ensures c.put-2.ensures)
