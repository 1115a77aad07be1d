use Rattle.std.proofs.Common.{◌≡◌, length}
use Rattle.ice_manifest_fields.specs.Decimals.{shortest}
use Rattle.ice_manifest_fields.proofs.decimal.shortest.Given as goal

abbrev pub invariant-signs : goal.invariant-signs
invariant-signs l = shortest l.rest ≡ shortest l.bytes

abbrev pub decreases-signs : goal.decreases-signs
decreases-signs l = length l.rest
