use Rattle.std.proofs.Common.{take, Ok}
use Rattle.std.specs.Fmt.{decimal}
use Rattle.icescan_forms.specs.Pieces.{each_from}
use Rattle.icescan_print.specs.Written.{Sent}
use Rattle.icescan_json.specs.Named.{rank}
use Rattle.icescan_json.proofs.tasks.put_places.Given as goal

-- the texts so far were sent
abbrev pub invariant-loop-i : goal.invariant-loop-i
invariant-loop-i g l = Sent g.S.Sink.taken g.S.Sink.may_fail l.fn.sink l.fn.page (Ok tt) l.sink l.page
    (each_from (λ _ n. decimal (rank l.named n)) l.first (take l.i l.places))
