use Rattle.std.proofs.Common.{◌≡◌, map, take}
use Rattle.icescan_columns.specs.JsonTypes.{seen}
use Rattle.icescan_columns.specs.Told.{told_column}
use Rattle.icescan_columns.proofs.told.told_columns.Given as goal

-- what is told of the columns so far
abbrev pub invariant-columns : goal.invariant-columns
invariant-columns l = l.told.items
    ≡ map (told_column (seen l.json) (map seen l.types.items) l.names.items) (take l.column-index l.columns)
