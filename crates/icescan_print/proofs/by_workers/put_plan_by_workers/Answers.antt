use Rattle.icescan_print.proofs.RangeTexts.{lines_joined}
use Rattle.icescan_print.proofs.Sends.{sent_less, sent_more}
use Rattle.icescan_print.specs.PlanTexts.{plan_text}
use Rattle.icescan_print.proofs.by_workers.put_plan_by_workers.Goals as goal

pub returns-in_err-put_list_by_workers : goal.returns-in_err-put_list_by_workers
unfolding plan_text
returns-in_err-put_list_by_workers g c =
    sent_less _ _ _ _ _ _ _ _ _ _ _ c.from_residual.ensures.0
    (rw (lines_joined c.args.lines.now) at c.in_err-put_list_by_workers.ensures)

pub returns : goal.returns
unfolding plan_text
returns g c = sent_more _ _ _ _ _ _ _ _ _ _ _ _
    (rw (lines_joined c.args.lines.now) at c.in_ok-put_list_by_workers.ensures) c.put_totals.ensures
