use Rattle.std.proofs.Common.{◌≡◌, length}
use Rattle.ice_transform.specs.Names.{number_after}
use Rattle.ice_transform.proofs.names.number_of.Given as goal

abbrev pub invariant-digits : goal.invariant-digits
invariant-digits l = number_after l.number l.rest ≡ number_after 0 l.fn.bytes

abbrev pub decreases-digits : goal.decreases-digits
decreases-digits l = length l.rest
