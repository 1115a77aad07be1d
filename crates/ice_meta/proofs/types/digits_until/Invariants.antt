use Rattle.std.proofs.Common.{◌≡◌, length}
use Rattle.ice_meta.specs.Types.{digits_until}
use Rattle.ice_meta.proofs.types.digits_until.Given as goal

abbrev pub invariant-digits : goal.invariant-digits
invariant-digits l = digits_until l.end l.number l.rest ≡ digits_until l.end 0 l.bytes

abbrev pub decreases-digits : goal.decreases-digits
decreases-digits l = length l.rest
