use Rattle.std.proofs.Common.{◌≡◌, drop}
use Rattle.ice_manifest_fields.specs.Seen.{fields_seen}
use Rattle.ice_manifest_fields.specs.Schemas.{type_at}
use Rattle.ice_manifest_fields.proofs.shape.type_at.Given as goal

abbrev pub invariant-fields : goal.invariant-fields
invariant-fields l = type_at l.id (fields_seen (drop l.field-index l.fields)) ≡ type_at l.id (fields_seen l.fields)
