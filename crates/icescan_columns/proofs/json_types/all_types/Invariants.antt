use Rattle.std.proofs.Common.{◌≡◌, drop, map}
use Rattle.icescan_columns.specs.JsonTypes.{all_types, seen, types_from}
use Rattle.icescan_columns.proofs.json_types.all_types.Given as goal

-- the types so far, and those of what is left
abbrev pub invariant-columns : goal.invariant-columns
invariant-columns l = types_from (seen l.schema) (map seen l.types.items) (drop l.column-index l.columns)
    ≡ all_types (seen l.schema) l.columns
