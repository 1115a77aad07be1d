use Rattle.std.proofs.Common.{◌≡◌, ◌++◌, take}
use Rattle.std.specs.List.{flat_map}
use Rattle.icescan_audit.specs.Texts.{total_text}
use Rattle.icescan_audit.proofs.lines.push_false_totals.Given as goal

abbrev pub invariant-totals : goal.invariant-totals
invariant-totals l = l.text.items ≡ l.fn.text.items ++ flat_map total_text (take l.total-index l.totals)
