use Rattle.std.proofs.Common.{◌≡◌, ◌++◌, take}
use Rattle.std.specs.List.{flat_map}
use Rattle.icescan_columns.specs.JsonLines.{field_object}
use Rattle.icescan_columns.proofs.json_lines.push_fields.Given as goal

-- the lines so far
abbrev pub invariant-fields : goal.invariant-fields
invariant-fields l = l.lines ≡ l.fn.lines ++ flat_map (field_object l.spec) (take l.field-index l.fields)
