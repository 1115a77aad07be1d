use Rattle.std.proofs.Common.{take, Ok}
use Rattle.std.specs.List.{flat_map}
use Rattle.icescan_print.specs.PlanTexts.{position_text}
use Rattle.icescan_print.specs.Written.{Sent}
use Rattle.icescan_print.proofs.plan_text.put_positions.Given as goal

-- the texts so far were sent
abbrev pub invariant-loop-i : goal.invariant-loop-i
invariant-loop-i g l = Sent g.S.Sink.taken g.S.Sink.may_fail l.fn.sink l.fn.page (Ok tt) l.sink l.page
    (flat_map position_text (take l.i l.files))
