use Rattle.std.proofs.Common.{◌≡◌, ◌++◌, drop, map}
use Rattle.icescan_changes.specs.declared.changes.FileChange.TheVariants as change
use Rattle.icescan_changes.proofs.changes.push_removed_files.Given as goal

-- what was put so far, and the rest
abbrev pub invariant-loop-i : goal.invariant-loop-i
invariant-loop-i l = l.changes.items ++ map change.Removed (drop l.i l.files)
    ≡ l.fn.changes.items ++ map change.Removed (drop l.start l.files)
