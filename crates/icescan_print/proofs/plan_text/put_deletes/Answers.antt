use Rattle.icescan_print.proofs.Sends.{sent_more, sent_less}
use Rattle.icescan_print.proofs.plan_text.put_deletes.Goals as goal

pub returns-in_err-put_positions : goal.returns-in_err-put_positions
returns-in_err-put_positions g c = sent_less _ _ _ _ _ _ _ _ _ _ _ c.from_residual.ensures.0
    (rw c.positions.ensures at c.in_err-put_positions.ensures)

pub returns : goal.returns
returns g c = sent_more _ _ _ _ _ _ _ _ _ _ _ _ (rw c.positions.ensures at c.in_ok-put_positions.ensures)
    (rw c.equalities.ensures at c.put_equalities.ensures)
