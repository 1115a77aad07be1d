use Rattle.std.proofs.Common.{◌≡◌, length}
use Rattle.ice_transform.specs.Murmur.{hash_after}
use Rattle.ice_transform.proofs.murmur.body.Given as goal

abbrev pub invariant-words : goal.invariant-words
invariant-words l = hash_after l.hash l.rest ≡ hash_after 0 l.fn.bytes

abbrev pub decreases-words : goal.decreases-words
decreases-words l = length l.rest
