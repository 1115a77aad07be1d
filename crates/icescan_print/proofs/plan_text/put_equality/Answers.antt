use Rattle.icescan_print.proofs.Sends.{sent_more, sent_less}
use Rattle.icescan_print.specs.PlanTexts.{equality_text}
use Rattle.icescan_print.proofs.plan_text.put_equality.Goals as goal

pub returns-in_err-put_numbered_path : goal.returns-in_err-put_numbered_path
unfolding equality_text
returns-in_err-put_numbered_path g c = sent_less _ _ _ _ _ _ _ _ _ _ _ c.from_residual.ensures.0
    c.in_err-put_numbered_path.ensures

pub returns-in_err-put : goal.returns-in_err-put
unfolding equality_text
returns-in_err-put g c = sent_more _ _ _ _ _ _ _ _ _ _ _ _ c.in_ok-put_numbered_path.ensures (sent_less _ _ _ _ _ _ _ _
    _ _ _ c.from_residual-in_err-put.ensures.0 c.in_err-put.ensures)

pub returns-in_err-put_ids : goal.returns-in_err-put_ids
unfolding equality_text
returns-in_err-put_ids g c = sent_more _ _ _ _ _ _ _ _ _ _ _ _ c.in_ok-put_numbered_path.ensures
    (sent_more _ _ _ _ _ _ _ _ _ _ _ _ c.in_ok-put.ensures (sent_less _ _ _ _ _ _ _ _ _ _ _
    c.from_residual-in_err-put_ids.ensures.0 (rw c.equality_ids.ensures at c.in_err-put_ids.ensures)))

pub returns : goal.returns
unfolding equality_text
returns g c = sent_more _ _ _ _ _ _ _ _ _ _ _ _ c.in_ok-put_numbered_path.ensures (sent_more _ _ _ _ _ _ _ _ _ _ _ _
    c.in_ok-put.ensures (sent_more _ _ _ _ _ _ _ _ _ _ _ _ (rw c.equality_ids.ensures at c.in_ok-put_ids.ensures)
    c.put-2.ensures))
