use Rattle.std.proofs.Common.{◌≤◌}
use Rattle.ice_deletes.proofs.shelf.Shelf.near_start.Given as goal

abbrev pub invariant-first : goal.invariant-first
invariant-first l = record { within : l.first ≤ l.end; some : 1 ≤ l.step }

abbrev pub decreases-first : goal.decreases-first
decreases-first l = l.first
