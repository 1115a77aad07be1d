use Rattle.std.proofs.Common.{◌∙◌, ◌≡◌, ◌++◌, ap, sym, subst, arith, ◌<◌, length, option_map, Option, IfSome, List}
use Rattle.std.proofs.lemmas.Grind.{common_steps}
use Rattle.ice_state.specs.declared.kept.taken.Taken.{Taken}
use Rattle.ice_state.specs.Contents.{with_row}
use Rattle.ice_state.specs.Slots.{contents, given, HasNumbers, HaveNumbers}
use Rattle.ice_state.specs.Joins.{join}
use Rattle.ice_state.proofs.Gains.{put_last, put_none, join-nil, nothing-before}
use Rattle.ice_state.proofs.SlotContents.{length-contents, last-contents, but-last-numbers}
use Rattle.ice_state.proofs.kept.slots.put_behind.Goals as goal

pub loop-slot-preserved-in-Some-slot : goal.loop-slot-preserved-in-Some-slot
loop-slot-preserved-in-Some-slot c =
    let slots = c.loop-slot.slots.items in
    let whole = c.loop-slot.gained.items in
    let left = c.pop.new.self.items in
    let room : length left < length slots = grind (arith, common_steps) in
    let at : c.len.result ≡ length left = grind (arith, common_steps) in
    let slot = c.in-Some.slot in
    record {
      fits = grind (arith, common_steps, c.put_row.ensures.len);
      left = λ kept more. (but-last-numbers kept left slot
          (subst (HaveNumbers kept) c.in-Some.ensures.items (c.loop-slot.invariant.left kept more))).0;
      rest = λ firsts kept are more.
          let split = but-last-numbers kept left slot
          (subst (HaveNumbers kept) c.in-Some.ensures.items (c.loop-slot.invariant.left kept more)) in
          let one = subst (λ (s : Option Taken). IfSome s (HasNumbers kept)) c.in-Some-slot.is split.1 in
          let all = firsts ++ kept in
          put_last (contents all slots) (contents kept left) (contents kept whole)
          (contents all c.put_row.new.slots.items) (option_map (given kept) slot)
          (given kept c.in-Some-slot.taken) c.len.result
          (c.put_row.ensures.row all ∙ ap (with_row (contents all slots) c.len.result)
          (c.behind.ensures.given firsts kept are one))
          (at ∙ sym (length-contents kept left)) (ap (option_map (given kept)) c.in-Some-slot.is)
          (ap (contents kept) c.in-Some.ensures.items ∙ last-contents kept left slot)
          (omega (arith, room, length-contents kept left, length-contents all slots))
          ∙ c.loop-slot.invariant.rest firsts kept are more;
      numbers = λ firsts kept are more before.
          let split = but-last-numbers kept left slot
          (subst (HaveNumbers kept) c.in-Some.ensures.items (c.loop-slot.invariant.left kept more)) in
          let one = subst (λ (s : Option Taken). IfSome s (HasNumbers kept)) c.in-Some-slot.is split.1 in
          c.put_row.ensures.numbers (firsts ++ kept) (c.loop-slot.invariant.numbers firsts kept are more before)
          (c.behind.ensures.numbers firsts kept are one);
    }

pub loop-slot-preserved : goal.loop-slot-preserved
loop-slot-preserved c =
    let slots = c.loop-slot.slots.items in
    let whole = c.loop-slot.gained.items in
    let left = c.pop.new.self.items in
    let slot = c.in-Some.slot in
    let room : length left < length slots = grind (arith, common_steps) in
    record {
      fits = grind (arith, common_steps);
      left = λ kept more. (but-last-numbers kept left slot
          (subst (HaveNumbers kept) c.in-Some.ensures.items (c.loop-slot.invariant.left kept more))).0;
      rest = λ firsts kept are more.
          let all = firsts ++ kept in
          put_none (contents all slots) (contents kept left) (contents kept whole) (option_map (given kept) slot)
          (ap (option_map (given kept)) c.in_default-slot.is)
          (ap (contents kept) c.in-Some.ensures.items ∙ last-contents kept left slot)
          (omega (arith, room, length-contents kept left, length-contents all slots))
          ∙ c.loop-slot.invariant.rest firsts kept are more;
      numbers = λ firsts kept are more before. c.loop-slot.invariant.numbers firsts kept are more before;
    }

pub returns-clause-rows : goal.returns-clause-rows
returns-clause-rows c = λ firsts kept are more.
    let all = firsts ++ kept in
    let none = nothing-before c.pop.new.self.items c.loop-slot.gained.items c.in_default.ensures.items
    (grind (arith, common_steps)) in
    sym (ap (λ (ss : List (Option Taken)). join (contents all c.loop-slot.slots.items) (contents kept ss)) none
    ∙ join-nil (contents all c.loop-slot.slots.items)) ∙ c.loop-slot.invariant.rest firsts kept are more

pub returns-clause-numbers : goal.returns-clause-numbers
returns-clause-numbers c = λ firsts kept are more before. c.loop-slot.invariant.numbers firsts kept are more before
