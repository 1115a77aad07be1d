use Rattle.std.proofs.Common.{◌≡◌, drop, ◌++◌}
use Rattle.std.specs.Prelude.{map}
use Rattle.ice_meta.specs.Targets.{bound_field}
use Rattle.ice_meta.proofs.metadata.bound_fields.Given as goal

abbrev pub invariant-fields : goal.invariant-fields
invariant-fields l = l.bound ++ map (bound_field l.schema) (drop l.field-index l.fields) ≡ map (bound_field l.schema)
    l.fields
