use Rattle.std.proofs.Common.{◌≡◌, take}
use Rattle.ice_state_entries.specs.Kept.{entries_at as kept_at}
use Rattle.ice_state.specs.Lines.{entries_at as entries_at_places}
use Rattle.ice_state.specs.Segments.{AreKept, entries_at, segment_at}
use Rattle.ice_state.proofs.finish.by_kind.files_in_order.Given as goal

abbrev pub invariant-order : goal.invariant-order
invariant-order l = record {
  kept : AreKept l.entries l.files.items;
  all : entries_at l.entries l.files.items
      ≡ entries_at_places (kept_at (segment_at l.entries l.ordered.segment) l.ordered.numbers)
      (take l.place-index l.ordered.order);
}
