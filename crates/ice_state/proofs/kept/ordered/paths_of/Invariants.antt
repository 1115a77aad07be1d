use Rattle.std.proofs.Common.{◌≡◌, take, map}
use Rattle.std.specs.List.{range_with_len}
use Rattle.ice_state_entries.specs.Kept.{entries_at}
use Rattle.ice_state.specs.Placed.{ArePlaced, entries_placed, place_of}
use Rattle.ice_state.proofs.kept.ordered.paths_of.Given as goal

abbrev pub invariant-numbers : goal.invariant-numbers
invariant-numbers l = record {
  placed : ArePlaced (entries_at l.entries l.numbers) l.placed.items;
  places : map place_of l.placed.items ≡ range_with_len 0 l.i;
  all : entries_placed (entries_at l.entries l.numbers) l.placed.items ≡ entries_at l.entries (take l.i l.numbers);
}
