use Rattle.std.proofs.Common.{◌≡◌, ◌≤◌, ◌++◌, vec_len}
use Rattle.ice_state.specs.Joins.{join}
use Rattle.ice_state.specs.Segments.{AreBefore, Segmented}
use Rattle.ice_state.specs.Slots.{contents, HaveNumbers}
use Rattle.ice_state.proofs.kept.slots.put_behind.Given as goal

-- what is left to add makes the whole union
abbrev pub invariant-loop-slot : goal.invariant-loop-slot
invariant-loop-slot l = record {
  fits : vec_len l.gained ≤ vec_len l.slots;
  left : (kept : Segmented) → HaveNumbers kept l.fn.gained.items → HaveNumbers kept l.gained.items;
  rest : (firsts kept : Segmented) → AreBefore l.before firsts kept → HaveNumbers kept l.fn.gained.items
      → join (contents (firsts ++ kept) l.slots.items) (contents kept l.gained.items)
      ≡ join (contents (firsts ++ kept) l.fn.slots.items) (contents kept l.fn.gained.items);
  numbers : (firsts kept : Segmented) → AreBefore l.before firsts kept → HaveNumbers kept l.fn.gained.items
      → HaveNumbers (firsts ++ kept) l.fn.slots.items → HaveNumbers (firsts ++ kept) l.slots.items;
}

abbrev pub decreases-loop-slot : goal.decreases-loop-slot
decreases-loop-slot l = vec_len l.gained
