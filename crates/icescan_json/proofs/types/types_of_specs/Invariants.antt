use Rattle.std.proofs.Common.{◌≡◌, map, take}
use Rattle.icescan_json.specs.Types.{spec_types}
use Rattle.icescan_json.proofs.types.types_of_specs.Given as goal

abbrev pub invariant-specs : goal.invariant-specs
invariant-specs l = l.types.items ≡ map spec_types (take l.spec-index l.specs)
