use Rattle.std.proofs.Common.{◌≡◌, ◌++◌, length}
use Rattle.icescan_paths.specs.Spelling.{single_slashes}
use Rattle.icescan_paths.proofs.spelling.single_slashes.Given as goal

-- the bytes so far, and those of what is left
abbrev pub invariant-left : goal.invariant-left
invariant-left l = l.bytes.items ++ single_slashes l.left ≡ single_slashes l.path

abbrev pub decreases-left : goal.decreases-left
decreases-left l = length l.left
