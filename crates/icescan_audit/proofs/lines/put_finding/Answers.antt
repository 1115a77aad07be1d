use Rattle.icescan_print.proofs.Sends.{sent_more, sent_less}
use Rattle.icescan_audit.specs.Texts.{finding_text}
use Rattle.icescan_audit.proofs.lines.put_finding.Goals as goal

pub returns-in_err-put : goal.returns-in_err-put
unfolding finding_text
returns-in_err-put g c = sent_less _ _ _ _ _ _ _ _ _ _ _ c.from_residual.ensures.0 c.in_err-put.ensures

pub returns-in_err-put-2 : goal.returns-in_err-put-2
unfolding finding_text
returns-in_err-put-2 g c =
    let name = rw c.flaw_name.ensures at c.in_err-put-2.ensures in
    sent_more _ _ _ _ _ _ _ _ _ _ _ _ c.in_ok-put.ensures
    (sent_less _ _ _ _ _ _ _ _ _ _ _ c.from_residual-in_err-put-2.ensures.0 name)

pub returns-in_err-put_named_path : goal.returns-in_err-put_named_path
unfolding finding_text
returns-in_err-put_named_path g c =
    let name = rw c.flaw_name.ensures at c.in_ok-put-2.ensures in
    let path = rw (c.as_bytes.ensures, c.get.ensures) at c.in_err-put_named_path.ensures in
    sent_more _ _ _ _ _ _ _ _ _ _ _ _ c.in_ok-put.ensures
    (sent_more _ _ _ _ _ _ _ _ _ _ _ _ name
    (sent_less _ _ _ _ _ _ _ _ _ _ _ c.from_residual-in_err-put_named_path.ensures.0 path))

pub returns : goal.returns
unfolding finding_text
returns g c =
    let name = rw c.flaw_name.ensures at c.in_ok-put-2.ensures in
    let path = rw (c.as_bytes.ensures, c.get.ensures) at c.in_ok-put_named_path.ensures in
    sent_more _ _ _ _ _ _ _ _ _ _ _ _ c.in_ok-put.ensures
    (sent_more _ _ _ _ _ _ _ _ _ _ _ _ name
    (sent_more _ _ _ _ _ _ _ _ _ _ _ _ path c.put_finding_end.ensures))
