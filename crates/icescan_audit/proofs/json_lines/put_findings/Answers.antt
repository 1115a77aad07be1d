use Rattle.std.proofs.Common.{◌≤◌, add-one, length}
use Rattle.icescan_audit.specs.JsonLines.{finding_object}
use Rattle.icescan_print.proofs.Sends.{flat_all, flat_cut, flat_next, sent_less, sent_more, sent_none, stands_at}
use Rattle.icescan_audit.proofs.json_lines.put_findings.Goals as goal

pub findings-init : goal.findings-init
findings-init g c = sent_none _ _ _ _ _

pub returns-in_err-put_finding : goal.returns-in_err-put_finding
returns-in_err-put_finding g c =
    let item = stands_at c.args.findings.now c.findings.finding-index c.finding-item.result c.findings-test.true
    c.finding-item.is in
    rw (flat_cut finding_object c.args.findings.now c.findings.finding-index c.finding-item.result item)
    (sent_more _ _ _ _ _ _ _ _ _ _ _ _ c.findings.invariant
    (sent_less _ _ _ _ _ _ _ _ _ _ _ c.from_residual.ensures.0 c.in_err-put_finding.ensures))

pub findings-preserved : goal.findings-preserved
findings-preserved g c =
    let item = stands_at c.args.findings.now c.findings.finding-index c.finding-item.result c.findings-test.true
    c.finding-item.is in
    rw (add-one, flat_next finding_object c.args.findings.now c.findings.finding-index c.finding-item.result item)
    (sent_more _ _ _ _ _ _ _ _ _ _ _ _ c.findings.invariant c.in_ok-put_finding.ensures)

pub returns : goal.returns
returns g c =
    let low : length c.args.findings.now ≤ c.findings.finding-index = c.findings-test.false in
    rw (flat_all finding_object c.args.findings.now c.findings.finding-index low) at c.findings.invariant
