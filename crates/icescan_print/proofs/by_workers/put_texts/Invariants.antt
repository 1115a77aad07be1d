use Rattle.std.proofs.Common.{◌*◌, Ok}
use Rattle.icescan_print.specs.Ranges.{range_text}
use Rattle.icescan_print.specs.Written.{Sent}
use Rattle.icescan_print.proofs.by_workers.put_texts.Given as goal

-- the texts so far were sent
abbrev pub invariant-loop-i : goal.invariant-loop-i
invariant-loop-i g l = Sent g.S.Sink.taken g.S.Sink.may_fail l.fn.sink l.fn.page (Ok tt) l.sink l.page
    (range_text (g.T.TextList.texts l.list) l.first (l.i * l.each))
