use Rattle.std.proofs.Common.{◌≡◌, ◌≤◌, ◌-◌, length, map, take}
use Rattle.ice_deletes.specs.Unions.{renumbered}
use Rattle.ice_state.specs.Segments.{entries_at}
use Rattle.ice_state.specs.Applying.{data_key_of}
use Rattle.ice_state.specs.Parts.{places_of}
use Rattle.ice_state.proofs.finish.stretches_looked_up.Given as goal

abbrev pub invariant-stretches : goal.invariant-stretches
invariant-stretches l = record {
  within : l.first ≤ length l.files;
  same : l.finder ≡ l.index;
  all : l.places ≡ map (λ x. places_of (renumbered l.ranks l.index) (data_key_of x))
      (entries_at l.entries (take l.first l.files));
}

abbrev pub decreases-stretches : goal.decreases-stretches
decreases-stretches l = length l.files - l.first
