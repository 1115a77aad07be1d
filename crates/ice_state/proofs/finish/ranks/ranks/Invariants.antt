use Rattle.std.proofs.Common.{◌≡◌, ◌<◌, ℕ, length, slice_index}
use Rattle.ice_state.proofs.finish.ranks.ranks.Given as goal

abbrev pub invariant-loop-rank : goal.invariant-loop-rank
invariant-loop-rank l = record {
  many : length l.ranks.items ≡ length l.initial.ranks.items;
  places : (k : ℕ) → k < l.rank → slice_index l.ranks.items (slice_index l.order k) ≡ k;
}
