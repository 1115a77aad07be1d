use Rattle.icescan_print.proofs.Sends.{sent_more, sent_less}
use Rattle.icescan_audit.proofs.lines.put_finding_end.Goals as goal

pub returns-in_err-put_file : goal.returns-in_err-put_file
returns-in_err-put_file g c =
    sent_less _ _ _ _ _ _ _ _ _ _ _ c.from_residual.ensures.0 c.in_err-put_file.ensures

pub returns-in_err-put_flaw_end : goal.returns-in_err-put_flaw_end
returns-in_err-put_flaw_end g c = sent_more _ _ _ _ _ _ _ _ _ _ _ _ c.in_ok-put_file.ensures
    (sent_less _ _ _ _ _ _ _ _ _ _ _ c.from_residual-in_err-put_flaw_end.ensures.0 c.in_err-put_flaw_end.ensures)

pub returns : goal.returns
returns g c = sent_more _ _ _ _ _ _ _ _ _ _ _ _ c.in_ok-put_file.ensures
    (sent_more _ _ _ _ _ _ _ _ _ _ _ _ c.in_ok-put_flaw_end.ensures c.put.ensures)
