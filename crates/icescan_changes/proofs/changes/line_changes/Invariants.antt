use Rattle.std.proofs.Common.{◌≡◌, ◌+◌, ◌-◌, ◌++◌, drop, length}
use Rattle.icescan_changes.specs.Changes.{line_changes, line_path, lines_told}
use Rattle.icescan_changes.specs.Walks.{walked}
use Rattle.icescan_changes.specs.declared.changes.Change.TheVariants as change
use Rattle.icescan_changes.proofs.changes.line_changes.Given as goal

-- what is told so far, and the walk over the rest
abbrev pub invariant-lines : goal.invariant-lines
invariant-lines l = l.changes.items
    ++ walked line_path change.Removed change.Added lines_told (drop l.i l.earlier) (drop l.j l.later)
    ≡ line_changes l.earlier l.later

abbrev pub decreases-lines : goal.decreases-lines
decreases-lines l = (length l.earlier - l.i) + (length l.later - l.j)
