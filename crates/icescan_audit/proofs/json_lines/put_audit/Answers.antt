use Rattle.icescan_audit.specs.JsonLines.{audit_objects}
use Rattle.icescan_print.proofs.Sends.{sent_more, sent_less}
use Rattle.icescan_audit.proofs.json_lines.put_audit.Goals as goal

pub returns-in_err-put_findings : goal.returns-in_err-put_findings
unfolding audit_objects
returns-in_err-put_findings g c = sent_less _ _ _ _ _ _ _ _ _ _ _ c.from_residual.ensures.0
    (rw c.as_slice.ensures at c.in_err-put_findings.ensures)

pub returns : goal.returns
unfolding audit_objects
returns g c = sent_more _ _ _ _ _ _ _ _ _ _ _ _ (rw c.as_slice.ensures at c.in_ok-put_findings.ensures)
    c.put_end.ensures
