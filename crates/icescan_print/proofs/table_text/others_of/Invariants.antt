use Rattle.std.proofs.Common.{◌≡◌, filter, map, take}
use Rattle.icescan_print.specs.TableTexts.{is_other}
use Rattle.icescan_print.proofs.table_text.others_of.Given as goal

abbrev pub invariant-refs : goal.invariant-refs
invariant-refs l = map (λ x. x.now) l.found.items ≡ filter is_other (take l.x-index l.refs)
