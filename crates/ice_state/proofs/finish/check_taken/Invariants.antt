use Rattle.std.proofs.Common.{◌≡◌, drop}
use Rattle.ice_state.specs.Segments.{Segmented}
use Rattle.ice_state.specs.Outcomes.{missing}
use Rattle.ice_state.specs.Slots.{contents}
use Rattle.ice_state.proofs.finish.check_taken.Given as goal

abbrev pub invariant-loop-i : goal.invariant-loop-i
invariant-loop-i l = (kept : Segmented)
    → missing (drop l.i l.rows) (drop l.i (contents kept l.slots)) ≡ missing l.rows (contents kept l.slots)
