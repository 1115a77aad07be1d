use Rattle.std.proofs.Common.{take, Ok}
use Rattle.icescan_json.specs.Named.{marked, rank}
use Rattle.icescan_json.specs.Texts.{deletes_text}
use Rattle.icescan_print.specs.Written.{Sent}
use Rattle.icescan_json.proofs.plan.put_deletes.Given as goal

-- the texts of those so far were sent
abbrev pub invariant-loop-i : goal.invariant-loop-i
invariant-loop-i g l = Sent g.S.Sink.taken g.S.Sink.may_fail l.fn.sink l.fn.page (Ok tt) l.sink l.page
    (deletes_text l.types (take (rank l.named l.i) (marked l.named l.plan.deletes)))
