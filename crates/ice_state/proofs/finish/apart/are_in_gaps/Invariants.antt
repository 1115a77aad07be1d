use Rattle.std.proofs.Common.{◌≡◌, ◌<◌, ◌≤◌, ◌-◌, ℕ, length}
use Rattle.ice_state.specs.Apart.{path_at}
use Rattle.ice_state.specs.Segments.{entries_at}
use Rattle.ice_state.specs.Shares.{count_at}
use Rattle.ice_state.proofs.finish.apart.are_in_gaps.Given as goal

abbrev pub invariant-some : goal.invariant-some
invariant-some l = record {
  near : l.near ≤ length l.files;
  within : l.first ≤ length l.some;
  none : (k : ℕ) → k < l.first → count_at (entries_at l.entries l.files) (path_at (entries_at l.entries l.some) k) ≡ 0;
}

abbrev pub decreases-some : goal.decreases-some
decreases-some l = length l.some - l.first
