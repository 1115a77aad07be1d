use Rattle.std.proofs.Common.{◌≡◌, take, map}
use Rattle.std.specs.List.{range_with_len}
use Rattle.ice_state.specs.Segments.{entries_at}
use Rattle.ice_state.specs.Placed.{ArePlaced, entries_placed, place_of}
use Rattle.ice_state.proofs.kept.ordered.paths_of_files.Given as goal

abbrev pub invariant-files : goal.invariant-files
invariant-files l = record {
  placed : ArePlaced (entries_at l.entries l.files) l.placed.items;
  places : map place_of l.placed.items ≡ range_with_len 0 l.i;
  all : entries_placed (entries_at l.entries l.files) l.placed.items ≡ entries_at l.entries (take l.i l.files);
}
