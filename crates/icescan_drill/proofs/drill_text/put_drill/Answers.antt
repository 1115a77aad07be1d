use Rattle.icescan_print.proofs.Sends.{sent_less, sent_more}
use Rattle.icescan_drill.specs.Drills.{drill_text}
use Rattle.icescan_drill.proofs.drill_text.put_drill.Goals as goal

pub returns-in_err-put_named_number : goal.returns-in_err-put_named_number
unfolding drill_text
returns-in_err-put_named_number g c = sent_less _ _ _ _ _ _ _ _ _ _ _ c.from_residual.ensures.0
    c.in_err-put_named_number.ensures

pub returns-in_err-put_named_number-2 : goal.returns-in_err-put_named_number-2
unfolding drill_text
returns-in_err-put_named_number-2 g c = sent_more _ _ _ _ _ _ _ _ _ _ _ _ c.in_ok-put_named_number.ensures
    (sent_less _ _ _ _ _ _ _ _ _ _ _ c.from_residual-in_err-put_named_number-2.ensures.0
    c.in_err-put_named_number-2.ensures)

pub returns-in_err-put : goal.returns-in_err-put
unfolding drill_text
returns-in_err-put g c = sent_more _ _ _ _ _ _ _ _ _ _ _ _ c.in_ok-put_named_number.ensures (sent_more _ _ _ _ _ _ _ _ _
    _ _ _ c.in_ok-put_named_number-2.ensures (sent_less _ _ _ _ _ _ _ _ _ _ _ c.from_residual-in_err-put.ensures.0
    c.in_err-put.ensures))

pub returns : goal.returns
unfolding drill_text
returns g c = sent_more _ _ _ _ _ _ _ _ _ _ _ _ c.in_ok-put_named_number.ensures (sent_more _ _ _ _ _ _ _ _ _ _ _ _
    c.in_ok-put_named_number-2.ensures (sent_more _ _ _ _ _ _ _ _ _ _ _ _ c.in_ok-put.ensures c.put_totals.ensures))
