use Rattle.icescan_print.proofs.Sends.{sent_less, sent_more}
use Rattle.icescan_json.proofs.files.put_referenced.Goals as goal

pub returns-in_err-put-in-Some : goal.returns-in_err-put-in-Some
returns-in_err-put-in-Some g c =
    rw c.in-Some.is (sent_less _ _ _ _ _ _ _ _ _ _ _ c.from_residual.ensures.0 c.in_err-put-in-Some.ensures)

pub returns-in_ok-put-in-Some : goal.returns-in_ok-put-in-Some
returns-in_ok-put-in-Some g c =
    rw c.in-Some.is (sent_more _ _ _ _ _ _ _ _ _ _ _ _ c.in_ok-put-in-Some.ensures c.put_quoted.ensures)
