use Rattle.std.proofs.Common.{◌≡◌, map, take}
use Rattle.icescan_print.proofs.table_text.lent.Given as goal

abbrev pub invariant-items : goal.invariant-items
invariant-items g l = map (λ x. x.now) l.found.items ≡ take l.item-index l.items
