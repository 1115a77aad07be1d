use Rattle.std.proofs.Common.{◌≡◌, map, take}
use Rattle.icescan_audit.specs.Subjects.{typed_column}
use Rattle.icescan_audit.proofs.subject.columns_of.Given as goal

abbrev pub invariant-columns : goal.invariant-columns
invariant-columns l = l.typed.items ≡ map typed_column (take l.column-index l.columns)
