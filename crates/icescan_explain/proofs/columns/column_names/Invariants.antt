use Rattle.std.proofs.Common.{◌≡◌, take}
use Rattle.icescan_explain.specs.Columns.{column_names}
use Rattle.icescan_explain.proofs.columns.column_names.Given as goal

abbrev pub invariant-parts : goal.invariant-parts
invariant-parts l = l.names.items ≡ column_names (take l.part-index l.parts)
