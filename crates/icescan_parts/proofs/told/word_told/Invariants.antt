use Rattle.std.proofs.Common.{◌≡◌, ◌++◌, length}
use Rattle.icescan_parts.specs.Told.{word_told}
use Rattle.icescan_parts.proofs.told.word_told.Given as goal

-- the bytes so far, and those of what is left
abbrev pub invariant-left : goal.invariant-left
invariant-left l = l.word.items ++ word_told l.left ≡ word_told l.line

abbrev pub decreases-left : goal.decreases-left
decreases-left l = length l.left
