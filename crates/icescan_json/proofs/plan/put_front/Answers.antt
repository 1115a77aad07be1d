use Rattle.icescan_print.proofs.Sends.{sent_less, sent_more}
use Rattle.icescan_json.proofs.plan.put_front.Goals as goal

pub returns-in_err-put : goal.returns-in_err-put
returns-in_err-put g c = sent_less _ _ _ _ _ _ _ _ _ _ _ c.from_residual.ensures.0 c.in_err-put.ensures

pub returns-in_err-put_deletes : goal.returns-in_err-put_deletes
returns-in_err-put_deletes g c = sent_more _ _ _ _ _ _ _ _ _ _ _ _ c.in_ok-put.ensures
    (sent_less _ _ _ _ _ _ _ _ _ _ _ c.from_residual-in_err-put_deletes.ensures.0 c.in_err-put_deletes.ensures)

pub returns : goal.returns
returns g c = sent_more _ _ _ _ _ _ _ _ _ _ _ _ c.in_ok-put.ensures
    (sent_more _ _ _ _ _ _ _ _ _ _ _ _ c.in_ok-put_deletes.ensures c.put-2.ensures)
