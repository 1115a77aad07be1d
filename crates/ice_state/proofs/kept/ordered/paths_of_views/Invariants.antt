use Rattle.std.proofs.Common.{◌≡◌, take, map}
use Rattle.std.specs.List.{range_with_len}
use Rattle.ice_state.specs.Placed.{ArePlaced, entries_placed, place_of}
use Rattle.ice_state.proofs.kept.ordered.paths_of_views.Given as goal

abbrev pub invariant-views : goal.invariant-views
invariant-views l = record {
  placed : ArePlaced l.views l.placed.items;
  places : map place_of l.placed.items ≡ range_with_len 0 l.i;
  all : entries_placed l.views l.placed.items ≡ take l.i l.views;
}
