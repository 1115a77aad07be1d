use Rattle.icescan_print.proofs.Sends.{sent_more, sent_less}
use Rattle.icescan_print.proofs.table_lines.put_dash.Goals as goal

pub returns-in_err-put : goal.returns-in_err-put
returns-in_err-put g c = sent_less _ _ _ _ _ _ _ _ _ _ _ c.from_residual.ensures.0 c.in_err-put.ensures

pub returns : goal.returns
returns g c = sent_more _ _ _ _ _ _ _ _ _ _ _ _ c.in_ok-put.ensures c.put-2.ensures
