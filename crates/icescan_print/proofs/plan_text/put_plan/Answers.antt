use Rattle.icescan_print.proofs.Sends.{sent_more, sent_less}
use Rattle.icescan_print.specs.PlanTexts.{plan_text}
use Rattle.icescan_print.proofs.plan_text.put_plan.Goals as goal

pub returns-in_err-put_lines : goal.returns-in_err-put_lines
unfolding plan_text
returns-in_err-put_lines g c = sent_less _ _ _ _ _ _ _ _ _ _ _ c.from_residual.ensures.0 c.in_err-put_lines.ensures

pub returns : goal.returns
unfolding plan_text
returns g c = sent_more _ _ _ _ _ _ _ _ _ _ _ _ c.in_ok-put_lines.ensures c.put_totals.ensures
