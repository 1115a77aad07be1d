use Rattle.std.proofs.Common.{◌≡◌, take}
use Rattle.icescan_explain.specs.Alone.{names_of}
use Rattle.icescan_explain.proofs.lone.field_names.Given as goal

abbrev pub invariant-fields : goal.invariant-fields
invariant-fields l = l.names.items ≡ names_of (take l.field-index l.fields)
