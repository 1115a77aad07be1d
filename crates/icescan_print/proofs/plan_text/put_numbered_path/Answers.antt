use Rattle.icescan_print.proofs.Sends.{sent_more, sent_less}
use Rattle.icescan_print.proofs.plan_text.put_numbered_path.Goals as goal

pub returns-in_err-put_named_path : goal.returns-in_err-put_named_path
returns-in_err-put_named_path g c = sent_less _ _ _ _ _ _ _ _ _ _ _ c.from_residual.ensures.0
    (rw c.path.ensures at c.in_err-put_named_path.ensures)

pub returns : goal.returns
returns g c = sent_more _ _ _ _ _ _ _ _ _ _ _ _ (rw c.path.ensures at c.in_ok-put_named_path.ensures)
    (rw (c.get.ensures.same, c.sequence_number.ensures) at c.put_named_number.ensures)
