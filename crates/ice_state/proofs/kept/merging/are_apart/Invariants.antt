use Rattle.std.proofs.Common.{drop}
use Rattle.ice_state.specs.Segments.{Segmented}
use Rattle.ice_state.specs.Parts.{AreApart}
use Rattle.ice_state.specs.Slots.{contents}
use Rattle.ice_state.proofs.kept.merging.are_apart.Given as goal

-- where the rest is apart, all is
abbrev pub invariant-loop-i : goal.invariant-loop-i
invariant-loop-i l = (kept others : Segmented)
    → AreApart (drop l.i (contents kept l.slots)) (drop l.i (contents others l.other))
    → AreApart (contents kept l.slots) (contents others l.other)
