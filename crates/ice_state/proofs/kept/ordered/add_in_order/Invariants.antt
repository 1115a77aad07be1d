use Rattle.std.proofs.Common.{◌≡◌, ◌<◌, length, take}
use Rattle.ice_state_entries.specs.Kept.{AreKept, entries_at}
use Rattle.ice_state.specs.Lines.{entries_at as entries_at_places}
use Rattle.ice_state.specs.Segments.{Keeps, segment_at}
use Rattle.ice_state.proofs.kept.ordered.add_in_order.Given as goal

abbrev pub invariant-order : goal.invariant-order
invariant-order l = record {
  there : l.segment < length l.entries;
  keeps : Keeps l.fn.entries l.entries;
  kept : AreKept (segment_at l.entries l.segment) l.numbers.items;
  same : entries_at (segment_at l.entries l.segment) l.numbers.items
      ≡ entries_at_places l.views (take l.place-index l.order);
}
