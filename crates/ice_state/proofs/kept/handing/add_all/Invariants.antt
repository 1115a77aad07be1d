use Rattle.std.proofs.Common.{◌≡◌, ◌<◌, length, take}
use Rattle.ice_state_entries.specs.Kept.{AreKept, entries_at}
use Rattle.ice_state.specs.Segments.{Keeps, segment_at}
use Rattle.ice_state.proofs.kept.handing.add_all.Given as goal

abbrev pub invariant-added : goal.invariant-added
invariant-added l = record {
  there : l.segment < length l.entries;
  keeps : Keeps l.fn.entries l.entries;
  kept : AreKept (segment_at l.entries l.segment) l.numbers.items;
  same : entries_at (segment_at l.entries l.segment) l.numbers.items ≡ take l.entry-index l.added;
}
