use Rattle.std.proofs.Common.{◌≡◌, ◌≤◌, vec_len}
use Rattle.ice_state.specs.Segments.{Segmented}
use Rattle.ice_state.specs.Joins.{join}
use Rattle.ice_state.specs.Slots.{contents, HaveNumbers}
use Rattle.ice_state.proofs.kept.slots.put_all.Given as goal

-- what is left to add makes the whole union
abbrev pub invariant-loop-slot : goal.invariant-loop-slot
invariant-loop-slot l = record {
  fits : vec_len l.gained ≤ vec_len l.slots;
  rest : (kept : Segmented) → join (contents kept l.slots.items) (contents kept l.gained.items)
      ≡ join (contents kept l.fn.slots.items) (contents kept l.fn.gained.items);
  numbers : (kept : Segmented) → HaveNumbers kept l.fn.slots.items → HaveNumbers kept l.fn.gained.items
      → HaveNumbers kept l.slots.items × HaveNumbers kept l.gained.items;
}

abbrev pub decreases-loop-slot : goal.decreases-loop-slot
decreases-loop-slot l = vec_len l.gained
