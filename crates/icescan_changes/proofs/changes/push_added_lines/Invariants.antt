use Rattle.std.proofs.Common.{◌≡◌, ◌++◌, drop, map}
use Rattle.icescan_changes.specs.declared.changes.Change.TheVariants as change
use Rattle.icescan_changes.proofs.changes.push_added_lines.Given as goal

-- what was put so far, and the rest
abbrev pub invariant-loop-i : goal.invariant-loop-i
invariant-loop-i l = l.changes.items ++ map change.Added (drop l.i l.lines)
    ≡ l.fn.changes.items ++ map change.Added (drop l.start l.lines)
