use Rattle.std.proofs.Common.{◌≡◌, ◌++◌, take}
use Rattle.std.specs.List.{flat_map}
use Rattle.icescan_columns.specs.JsonLines.{spec_objects}
use Rattle.icescan_columns.proofs.json_lines.push_specs.Given as goal

-- the lines so far
abbrev pub invariant-specs : goal.invariant-specs
invariant-specs l = l.lines ≡ l.fn.lines ++ flat_map spec_objects (take l.spec-index l.specs)
