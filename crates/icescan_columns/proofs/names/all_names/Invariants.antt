use Rattle.std.proofs.Common.{◌≡◌, drop}
use Rattle.icescan_columns.specs.Names.{all_names, names_from}
use Rattle.icescan_columns.proofs.names.all_names.Given as goal

-- the names so far, and those of what is left
abbrev pub invariant-columns : goal.invariant-columns
invariant-columns l = names_from l.names.items (drop l.column-index l.columns) ≡ all_names l.columns
