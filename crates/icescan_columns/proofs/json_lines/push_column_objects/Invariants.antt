use Rattle.std.proofs.Common.{◌≡◌, ◌++◌, take}
use Rattle.std.specs.List.{flat_map}
use Rattle.icescan_columns.specs.JsonLines.{column_object}
use Rattle.icescan_columns.proofs.json_lines.push_column_objects.Given as goal

-- the lines so far
abbrev pub invariant-columns : goal.invariant-columns
invariant-columns l = l.lines ≡ l.fn.lines ++ flat_map (column_object l.schema) (take l.told-index l.columns)
