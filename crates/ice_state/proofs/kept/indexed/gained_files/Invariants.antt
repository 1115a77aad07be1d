use Rattle.std.proofs.Common.{◌≡◌, ◌++◌, drop, filter}
use Rattle.ice_state.specs.Outcomes.{kept_in}
use Rattle.ice_state.specs.Parts.{gains, holds_deletes}
use Rattle.ice_state.specs.Segments.{AreKept, entries_at, Segmented}
use Rattle.ice_state.specs.Slots.{contents}
use Rattle.ice_state.proofs.kept.indexed.gained_files.Given as goal

abbrev pub invariant-loop-i : goal.invariant-loop-i
invariant-loop-i l = record {
  kept : AreKept l.entries l.found.items;
  all : (kept : Segmented) → entries_at l.entries l.found.items ++ filter holds_deletes (kept_in
      (gains (drop l.i (contents kept l.slots)) (drop l.i (contents l.entries l.other))))
      ≡ filter holds_deletes (kept_in (gains (contents kept l.slots) (contents l.entries l.other)));
}
