use Rattle.std.proofs.Common.{drop}
use Rattle.ice_state.specs.Segments.{Segmented}
use Rattle.ice_state.specs.Joins.{TookAllOf}
use Rattle.ice_state.specs.Slots.{contents}
use Rattle.ice_state.proofs.kept.merging.has_taken_all_of.Given as goal

-- where the rest is taken, all is
abbrev pub invariant-loop-i : goal.invariant-loop-i
invariant-loop-i l = (kept others : Segmented)
    → TookAllOf (drop l.i (contents kept l.slots)) (drop l.i (contents others l.other))
    → TookAllOf (contents kept l.slots) (contents others l.other)
