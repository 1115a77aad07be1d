use Rattle.icescan_print.specs.TableTexts.{head_text}
use Rattle.icescan_print.proofs.Sends.{sent_more, sent_less}
use Rattle.icescan_print.proofs.table_text.put_head.Goals as goal

pub returns-in_err-put_uuid : goal.returns-in_err-put_uuid
unfolding head_text
returns-in_err-put_uuid g c =
    sent_less _ _ _ _ _ _ _ _ _ _ _ c.from_residual.ensures.0 (c.in_err-put_uuid.ensures)

pub returns-in_err-put_named_path : goal.returns-in_err-put_named_path
unfolding head_text
returns-in_err-put_named_path g c =
    sent_more _ _ _ _ _ _ _ _ _ _ _ _ (c.in_ok-put_uuid.ensures) (sent_less _ _ _ _ _ _ _ _ _ _ _
    c.from_residual-in_err-put_named_path.ensures.0 (rw c.as_bytes.ensures at c.in_err-put_named_path.ensures))

pub returns-in_err-put_named_number : goal.returns-in_err-put_named_number
unfolding head_text
returns-in_err-put_named_number g c =
    sent_more _ _ _ _ _ _ _ _ _ _ _ _ (c.in_ok-put_uuid.ensures) (sent_more _ _ _ _ _ _ _ _ _ _ _ _
    (rw c.as_bytes.ensures at c.in_ok-put_named_path.ensures) (sent_less _ _ _ _ _ _ _ _ _ _ _
    c.from_residual-in_err-put_named_number.ensures.0 (rw c.get.ensures.same at c.in_err-put_named_number.ensures)))

pub returns-in_err-put_named_id : goal.returns-in_err-put_named_id
unfolding head_text
returns-in_err-put_named_id g c =
    sent_more _ _ _ _ _ _ _ _ _ _ _ _ (c.in_ok-put_uuid.ensures) (sent_more _ _ _ _ _ _ _ _ _ _ _ _
    (rw c.as_bytes.ensures at c.in_ok-put_named_path.ensures) (sent_more _ _ _ _ _ _ _ _ _ _ _ _
    (rw c.get.ensures.same at c.in_ok-put_named_number.ensures) (sent_less _ _ _ _ _ _ _ _ _ _ _
    c.from_residual-in_err-put_named_id.ensures.0 (c.in_err-put_named_id.ensures))))

pub returns : goal.returns
unfolding head_text
returns g c =
    sent_more _ _ _ _ _ _ _ _ _ _ _ _ (c.in_ok-put_uuid.ensures) (sent_more _ _ _ _ _ _ _ _ _ _ _ _
    (rw c.as_bytes.ensures at c.in_ok-put_named_path.ensures) (sent_more _ _ _ _ _ _ _ _ _ _ _ _
    (rw c.get.ensures.same at c.in_ok-put_named_number.ensures) (sent_more _ _ _ _ _ _ _ _ _ _ _ _
    (c.in_ok-put_named_id.ensures) c.put.ensures)))
