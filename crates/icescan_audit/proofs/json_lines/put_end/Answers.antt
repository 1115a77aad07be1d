use Rattle.icescan_print.proofs.Sends.{sent_more, sent_less}
use Rattle.icescan_audit.proofs.json_lines.put_end.Goals as goal

pub returns-in_err-put_false_totals : goal.returns-in_err-put_false_totals
returns-in_err-put_false_totals g c = sent_less _ _ _ _ _ _ _ _ _ _ _ c.from_residual.ensures.0
    (rw c.as_slice.ensures at c.in_err-put_false_totals.ensures)

pub returns : goal.returns
returns g c = sent_more _ _ _ _ _ _ _ _ _ _ _ _ (rw c.as_slice.ensures at c.in_ok-put_false_totals.ensures)
    c.put_totals.ensures
