use Rattle.icescan_print.proofs.Sends.{sent_more, sent_less}
use Rattle.icescan_print.specs.PlanTexts.{position_text}
use Rattle.icescan_print.proofs.plan_text.put_position.Goals as goal

pub returns-in_err-put_numbered_path : goal.returns-in_err-put_numbered_path
unfolding position_text
returns-in_err-put_numbered_path g c = sent_less _ _ _ _ _ _ _ _ _ _ _ c.from_residual.ensures.0
    c.in_err-put_numbered_path.ensures

pub returns : goal.returns
unfolding position_text
returns g c = sent_more _ _ _ _ _ _ _ _ _ _ _ _ c.in_ok-put_numbered_path.ensures c.put.ensures
