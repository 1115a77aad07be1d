use Rattle.std.proofs.Common.{◌≡◌, drop}
use Rattle.ice_state.specs.Segments.{Segmented}
use Rattle.ice_state.specs.Outcomes.{bad}
use Rattle.ice_state.specs.Slots.{contents}
use Rattle.ice_state.proofs.finish.check_good.Given as goal

abbrev pub invariant-loop-i : goal.invariant-loop-i
invariant-loop-i l = (kept : Segmented)
    → bad (drop l.i l.rows) (drop l.i (contents kept l.slots)) ≡ bad l.rows (contents kept l.slots)
