use Rattle.std.proofs.Common.{◌≡◌, ◌≤◌, ◌+◌, ◌-◌, ◌++◌, length, map}
use Rattle.ice_state_envelopes.specs.Envelopes.{shown}
use Rattle.ice_state_envelopes.specs.Joins.{union}
use Rattle.ice_state_envelopes.proofs.Unions.{Left}
use Rattle.ice_state_envelopes.proofs.joining.union_of.Given as goal

-- what was taken, and the union of what is left
abbrev pub invariant-sections : goal.invariant-sections
invariant-sections l = record {
  ones : l.i ≤ length l.ones;
  others : l.j ≤ length l.others;
  so_far : map shown l.all.items ++ Left l.ones l.others l.i l.j ≡ union (map shown l.ones) (map shown l.others);
}

abbrev pub decreases-sections : goal.decreases-sections
decreases-sections l = (length l.ones + length l.others) - (l.i + l.j)
