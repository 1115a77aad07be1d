use Rattle.std.proofs.Common.{take, Ok}
use Rattle.std.specs.List.{flat_map}
use Rattle.icescan_print.specs.Written.{Sent}
use Rattle.icescan_print.proofs.table_text.put_lines.Given as goal

-- the lines so far were sent
abbrev pub invariant-loop-item : goal.invariant-loop-item
invariant-loop-item g l = Sent g.S.Sink.taken g.S.Sink.may_fail l.fn.sink l.fn.page (Ok tt) l.sink l.page
    (flat_map (λ x. g.T.TableLine.line x.now) (take l.item-index l.items))
