use Rattle.std.proofs.Common.{◌∷◌, take, Ok}
use Rattle.std.specs.Fmt.{signed_decimal}
use Rattle.std.specs.List.{flat_map}
use Rattle.icescan_print.specs.Written.{Sent}
use Rattle.icescan_print.proofs.plan_text.put_more_ids.Given as goal

-- the ids so far were sent
abbrev pub invariant-loop-id : goal.invariant-loop-id
invariant-loop-id g l = Sent g.S.Sink.taken g.S.Sink.may_fail l.fn.sink l.fn.page (Ok tt) l.sink l.page
    (flat_map (λ i. 44 ∷ signed_decimal i) (take l.id-index l.ids))
