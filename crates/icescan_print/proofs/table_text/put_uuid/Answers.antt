use Rattle.icescan_print.proofs.Sends.{sent_more, sent_less}
use Rattle.icescan_print.proofs.table_text.put_uuid.Goals as goal

pub returns-in_err-put : goal.returns-in_err-put
returns-in_err-put g c = sent_less _ _ _ _ _ _ _ _ _ _ _ c.from_residual.ensures.0 c.in_err-put.ensures

pub returns : goal.returns
returns g c = sent_more _ _ _ _ _ _ _ _ _ _ _ _ c.in_ok-put.ensures
    (rw (c.as_bytes.ensures.value, c.encode_lower.ensures.text, c.hyphenated.ensures) at c.put-2.ensures)
