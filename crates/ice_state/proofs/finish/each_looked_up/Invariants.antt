use Rattle.std.proofs.Common.{◌≡◌, map, take}
use Rattle.ice_deletes.specs.Unions.{renumbered}
use Rattle.ice_state.specs.Segments.{entries_at}
use Rattle.ice_state.specs.Applying.{data_key_of}
use Rattle.ice_state.specs.Parts.{places_of}
use Rattle.ice_state.proofs.finish.each_looked_up.Given as goal

abbrev pub invariant-files : goal.invariant-files
invariant-files l = record {
  same : l.finder ≡ l.index;
  all : l.places ≡ map (λ x. places_of (renumbered l.ranks l.index) (data_key_of x))
      (entries_at l.entries (take l.file-index l.files));
}
