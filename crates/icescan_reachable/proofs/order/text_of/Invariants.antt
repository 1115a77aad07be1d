use Rattle.std.proofs.Common.{◌≡◌, take}
use Rattle.icescan_reachable.specs.Lines.{lines_text}
use Rattle.icescan_reachable.proofs.order.text_of.Given as goal

-- the text of the lines so far
abbrev pub invariant-lines : goal.invariant-lines
invariant-lines l = l.text.items ≡ lines_text (take l.line-index l.lines)
