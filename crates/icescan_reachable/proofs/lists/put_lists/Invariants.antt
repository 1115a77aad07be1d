use Rattle.std.proofs.Common.{◌≡◌, drop}
use Rattle.icescan_reachable.specs.Given.{lists_behind}
use Rattle.icescan_reachable.proofs.lists.put_lists.Given as goal

-- the lines so far, and those of what is left
abbrev pub invariant-snapshots : goal.invariant-snapshots
invariant-snapshots l = lists_behind (drop l.snapshot-index l.snapshots) l.lines.items
    ≡ lists_behind l.snapshots l.fn.lines.items
