use Rattle.std.proofs.Common.{◌≡◌, ◌++◌, take}
use Rattle.std.specs.List.{flat_map}
use Rattle.icescan_changes.specs.JsonLines.{delete_object}
use Rattle.icescan_changes.proofs.json_lines.push_deletes.Given as goal

-- the lines so far
abbrev pub invariant-loop-i : goal.invariant-loop-i
invariant-loop-i l = l.lines ≡ l.fn.lines ++ flat_map (delete_object l.kind l.became l.owner) (take l.i l.files)
