use Rattle.icescan_print.specs.TableTexts.{origin_text}
use Rattle.icescan_print.proofs.Sends.{sent_more, sent_less}
use Rattle.icescan_print.proofs.table_lines.put_origin.Goals as goal

pub returns-in_err-put_named_id : goal.returns-in_err-put_named_id
unfolding origin_text
returns-in_err-put_named_id g c = sent_less _ _ _ _ _ _ _ _ _ _ _ c.from_residual.ensures.0
    c.in_err-put_named_id.ensures

pub returns-in_err-put_named_text : goal.returns-in_err-put_named_text
unfolding origin_text
returns-in_err-put_named_text g c = sent_more _ _ _ _ _ _ _ _ _ _ _ _ c.in_ok-put_named_id.ensures
    (sent_less _ _ _ _ _ _ _ _ _ _ _ c.from_residual-in_err-put_named_text.ensures.0 c.in_err-put_named_text.ensures)

pub returns : goal.returns
unfolding origin_text
returns g c = sent_more _ _ _ _ _ _ _ _ _ _ _ _ c.in_ok-put_named_id.ensures (sent_more _ _ _ _ _ _ _ _ _ _ _ _
    c.in_ok-put_named_text.ensures c.put_named_text-2.ensures)
