use Rattle.std.proofs.Common.{◌≡◌, map, take}
use Rattle.icescan_json.specs.Types.{field_type}
use Rattle.icescan_json.proofs.types.field_types.Given as goal

abbrev pub invariant-fields : goal.invariant-fields
invariant-fields l = l.types ≡ map field_type (take l.field-index l.fields)
