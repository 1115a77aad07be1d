use Rattle.std.proofs.Common.{take, Ok}
use Rattle.std.specs.List.{flat_map}
use Rattle.icescan_print.specs.Written.{Sent}
use Rattle.icescan_audit.specs.JsonLines.{finding_object}
use Rattle.icescan_audit.proofs.json_lines.put_findings.Given as goal

-- the lines so far were sent
abbrev pub invariant-findings : goal.invariant-findings
invariant-findings g l =
    Sent g.S.Sink.taken g.S.Sink.may_fail l.fn.sink l.fn.page (Ok tt) l.sink l.page
    (flat_map finding_object (take l.finding-index l.findings))
