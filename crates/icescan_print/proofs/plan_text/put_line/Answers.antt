use Rattle.icescan_print.proofs.Kept.{one_line}
use Rattle.icescan_print.proofs.Sends.{sent_more, sent_less}
use Rattle.icescan_print.specs.PlanTexts.{line_text}
use Rattle.icescan_print.proofs.plan_text.put_line.Goals as goal

pub returns-in_err-put_file-clause-sent : goal.returns-in_err-put_file-clause-sent
unfolding line_text
returns-in_err-put_file-clause-sent g c line is =
    rw (← one_line c.args.lines.now c.args.i c.line.result line c.line.ensures is)
    (sent_less _ _ _ _ _ _ _ _ _ _ _ c.from_residual.ensures.0 (rw c.file.ensures at c.in_err-put_file.ensures))

pub returns-clause-sent : goal.returns-clause-sent
unfolding line_text
returns-clause-sent g c line is =
    rw (← one_line c.args.lines.now c.args.i c.line.result line c.line.ensures is)
    (sent_more _ _ _ _ _ _ _ _ _ _ _ _ (rw c.file.ensures at c.in_ok-put_file.ensures)
    (c.put_made_deletes.ensures.sent c.line.result c.line.ensures))
