use Rattle.std.proofs.Common.{◌≡◌, drop}
use Rattle.icescan_json.specs.Types.{types_of}
use Rattle.icescan_json.proofs.types.types_of.Given as goal

abbrev pub invariant-specs : goal.invariant-specs
invariant-specs l = types_of (drop l.spec-index l.types) l.id ≡ types_of l.types l.id
