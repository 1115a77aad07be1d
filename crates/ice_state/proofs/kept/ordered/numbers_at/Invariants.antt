use Rattle.std.proofs.Common.{◌≡◌, map, slice_index_or, take}
use Rattle.ice_state_entries.specs.declared.entries.EntryNumber.TheVariants.{Record}
use Rattle.ice_state.proofs.kept.ordered.numbers_at.Given as goal

abbrev pub invariant-places : goal.invariant-places
invariant-places l = l.found.items ≡ map (λ p. slice_index_or l.numbers p (Record 0)) (take l.place-index l.places)
