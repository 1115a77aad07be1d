use Rattle.std.proofs.Common.{◌≡◌, drop, ◌++◌}
use Rattle.std.specs.Prelude.{map}
use Rattle.ice_meta.specs.Targets.{bound_spec}
use Rattle.ice_meta.proofs.metadata.bound_specs.Given as goal

abbrev pub invariant-specs : goal.invariant-specs
invariant-specs l = l.bound ++ map (bound_spec l.schema) (drop l.spec-index l.specs) ≡ map (bound_spec l.schema) l.specs
