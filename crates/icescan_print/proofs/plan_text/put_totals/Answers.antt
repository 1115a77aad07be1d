use Rattle.icescan_print.proofs.Sends.{sent_more, sent_less}
use Rattle.icescan_print.specs.PlanTexts.{totals_text}
use Rattle.icescan_print.proofs.plan_text.put_totals.Goals as goal

pub returns-in_err-put_named_number : goal.returns-in_err-put_named_number
unfolding totals_text
returns-in_err-put_named_number g c = sent_less _ _ _ _ _ _ _ _ _ _ _ c.from_residual.ensures.0
    (rw c.len.ensures.counted at c.in_err-put_named_number.ensures)

pub returns-in_err-put_named_number-2 : goal.returns-in_err-put_named_number-2
unfolding totals_text
returns-in_err-put_named_number-2 g c = sent_more _ _ _ _ _ _ _ _ _ _ _ _
    (rw c.len.ensures.counted at c.in_ok-put_named_number.ensures) (sent_less _ _ _ _ _ _ _ _ _ _ _
    c.from_residual-in_err-put_named_number-2.ensures.0 (rw c.requires at c.in_err-put_named_number-2.ensures))

pub returns : goal.returns
unfolding totals_text
returns g c = sent_more _ _ _ _ _ _ _ _ _ _ _ _ (rw c.len.ensures.counted at c.in_ok-put_named_number.ensures)
    (sent_more _ _ _ _ _ _ _ _ _ _ _ _ (rw c.requires at c.in_ok-put_named_number-2.ensures) c.put.ensures)
