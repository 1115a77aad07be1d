use Rattle.std.proofs.Common.{◌≡◌, length}
use Rattle.ice_meta.specs.Reading.{again}
use Rattle.ice_meta.proofs.numbered.again.Given as goal

abbrev pub invariant-ids : goal.invariant-ids
invariant-ids l = again l.rest ≡ again l.ids

abbrev pub decreases-ids : goal.decreases-ids
decreases-ids l = length l.rest
