use Rattle.std.proofs.Common.{◌≡◌, ◌++◌, take}
use Rattle.std.specs.List.{flat_map}
use Rattle.icescan_columns.specs.Texts.{column_line}
use Rattle.icescan_columns.proofs.lines.push_columns.Given as goal

-- the lines so far
abbrev pub invariant-columns : goal.invariant-columns
invariant-columns l = l.text.items ≡ l.fn.text.items ++ flat_map column_line (take l.told-index l.columns)
