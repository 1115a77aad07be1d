use Rattle.std.proofs.Common.{◌≡◌, map, take}
use Rattle.ice_project.specs.Fields.{field_of}
use Rattle.ice_project.proofs.field.read_fields.Given as goal

abbrev pub invariant-fields : goal.invariant-fields
invariant-fields l = l.read ≡ map field_of (take l.field-index l.fields)
