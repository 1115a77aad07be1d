use Rattle.std.proofs.Common.{◌≡◌, ◌+◌, ◌-◌, ◌++◌, drop, length}
use Rattle.icescan_changes.specs.Changes.{file_changes, file_path, files_told}
use Rattle.icescan_changes.specs.Walks.{walked}
use Rattle.icescan_changes.specs.declared.changes.FileChange.TheVariants as change
use Rattle.icescan_changes.proofs.changes.file_changes.Given as goal

-- what is told so far, and the walk over the rest
abbrev pub invariant-files : goal.invariant-files
invariant-files l = l.changes.items
    ++ walked file_path change.Removed change.Added files_told (drop l.i l.earlier) (drop l.j l.later)
    ≡ file_changes l.earlier l.later

abbrev pub decreases-files : goal.decreases-files
decreases-files l = (length l.earlier - l.i) + (length l.later - l.j)
