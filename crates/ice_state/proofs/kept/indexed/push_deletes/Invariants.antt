use Rattle.std.proofs.Common.{◌≡◌, ◌++◌, filter, take}
use Rattle.ice_state_entries.specs.Kept.{entries_at as entries_in}
use Rattle.ice_state.specs.Parts.{holds_deletes}
use Rattle.ice_state.specs.Segments.{AreKept, entries_at, segment_at}
use Rattle.ice_state.proofs.kept.indexed.push_deletes.Given as goal

abbrev pub invariant-numbers : goal.invariant-numbers
invariant-numbers l = record {
  kept : AreKept l.entries l.fn.found.items → AreKept l.entries l.found.items;
  pushed : entries_at l.entries l.found.items ≡ entries_at l.entries l.fn.found.items
      ++ filter holds_deletes
      (entries_in (segment_at l.entries l.ordered.segment) (take l.number-index l.ordered.numbers));
}
