use Rattle.std.proofs.Common.{◌≡◌, ◌++◌, drop}
use Rattle.ice_state.specs.Segments.{Segmented, Keeps}
use Rattle.ice_state.specs.Parts.{gains}
use Rattle.ice_state.specs.Slots.{contents, HaveNumbers}
use Rattle.ice_state.proofs.kept.merging.gained.Given as goal

abbrev pub invariant-loop-i : goal.invariant-loop-i
invariant-loop-i l = record {
  keeps : Keeps l.fn.entries l.entries;
  numbers : HaveNumbers l.entries l.gained.items;
  gained : (kept : Segmented) → contents l.entries l.gained.items
      ++ gains (drop l.i (contents kept l.slots)) (drop l.i (contents l.others l.other))
      ≡ gains (contents kept l.slots) (contents l.others l.other);
}
