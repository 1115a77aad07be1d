use Rattle.std.proofs.Common.{◌≡◌, ◌++◌, take}
use Rattle.std.specs.List.{flat_map}
use Rattle.icescan_columns.specs.JsonLines.{other_object}
use Rattle.icescan_columns.proofs.json_lines.push_others.Given as goal

-- the lines so far
abbrev pub invariant-refs : goal.invariant-refs
invariant-refs l = l.lines ≡ l.fn.lines ++ flat_map other_object (take l.found-index l.refs)
