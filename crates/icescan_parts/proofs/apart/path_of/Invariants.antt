use Rattle.std.proofs.Common.{◌≡◌, length}
use Rattle.icescan_parts.specs.Alone.{path_of}
use Rattle.icescan_parts.proofs.apart.path_of.Given as goal

-- the path is in what is left
abbrev pub invariant-left : goal.invariant-left
invariant-left l = path_of l.left ≡ path_of l.line

abbrev pub decreases-left : goal.decreases-left
decreases-left l = length l.left
