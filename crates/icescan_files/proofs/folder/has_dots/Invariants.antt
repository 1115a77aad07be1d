use Rattle.std.proofs.Common.{◌≡◌, ◌≤◌, length}
use Rattle.icescan_files.specs.Folders.{has_dots}
use Rattle.icescan_files.proofs.folder.has_dots.Given as goal

abbrev pub invariant-left : goal.invariant-left
invariant-left l = record { same : has_dots l.path ≡ has_dots l.left; within : length l.left ≤ length l.path }

abbrev pub decreases-left : goal.decreases-left
decreases-left l = length l.left
