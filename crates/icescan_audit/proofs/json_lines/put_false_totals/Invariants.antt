use Rattle.std.proofs.Common.{take, Ok}
use Rattle.std.specs.List.{flat_map}
use Rattle.icescan_print.specs.Written.{Sent}
use Rattle.icescan_audit.specs.JsonLines.{total_object}
use Rattle.icescan_audit.proofs.json_lines.put_false_totals.Given as goal

-- the lines so far were sent
abbrev pub invariant-totals : goal.invariant-totals
invariant-totals g l =
    Sent g.S.Sink.taken g.S.Sink.may_fail l.fn.sink l.fn.page (Ok tt) l.sink l.page
    (flat_map total_object (take l.total-index l.totals))
