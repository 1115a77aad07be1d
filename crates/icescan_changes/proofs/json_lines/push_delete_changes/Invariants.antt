use Rattle.std.proofs.Common.{◌≡◌, ◌++◌, take}
use Rattle.std.specs.List.{flat_map}
use Rattle.icescan_changes.specs.JsonLines.{delete_change}
use Rattle.icescan_changes.proofs.json_lines.push_delete_changes.Given as goal

-- the lines so far
abbrev pub invariant-changes : goal.invariant-changes
invariant-changes l = l.lines ≡ l.fn.lines ++ flat_map (delete_change l.kind l.owner) (take l.change-index l.changes)
