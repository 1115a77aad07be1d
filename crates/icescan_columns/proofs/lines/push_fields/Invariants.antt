use Rattle.std.proofs.Common.{◌≡◌, ◌++◌, take}
use Rattle.std.specs.List.{flat_map}
use Rattle.icescan_columns.specs.Texts.{field_line}
use Rattle.icescan_columns.proofs.lines.push_fields.Given as goal

-- the lines so far
abbrev pub invariant-fields : goal.invariant-fields
invariant-fields l = l.text.items ≡ l.fn.text.items ++ flat_map field_line (take l.field-index l.fields)
