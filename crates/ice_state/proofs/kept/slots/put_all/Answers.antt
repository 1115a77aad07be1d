use Rattle.std.proofs.Common.{◌∙◌, ◌≡◌, ap, sym, subst, arith, ◌<◌, length, option_map, Option, IfSome, List}
use Rattle.std.proofs.lemmas.Grind.{common_steps}
use Rattle.ice_state.specs.declared.kept.taken.Taken.{Taken}
use Rattle.ice_state.specs.Slots.{contents, given, HasNumbers, HaveNumbers}
use Rattle.ice_state.specs.Joins.{join}
use Rattle.ice_state.proofs.Gains.{put_last, put_none, join-nil, nothing-before}
use Rattle.ice_state.proofs.SlotContents.{length-contents, last-contents, but-last-numbers}
use Rattle.ice_state.proofs.kept.slots.put_all.Goals as goal

pub loop-slot-preserved-in-Some-slot : goal.loop-slot-preserved-in-Some-slot
loop-slot-preserved-in-Some-slot c =
    let slots = c.loop-slot.slots.items in
    let whole = c.loop-slot.gained.items in
    let left = c.pop.new.self.items in
    let room : length left < length slots = grind (arith, common_steps) in
    let at : c.len.result ≡ length left = grind (arith, common_steps) in
    let slot = c.in-Some.slot in
    record {
      fits = grind (arith, common_steps, c.put_row.ensures.len);
      rest = λ kept.
          put_last (contents kept slots) (contents kept left) (contents kept whole)
          (contents kept c.put_row.new.slots.items) (option_map (given kept) slot)
          (given kept c.in-Some-slot.taken) c.len.result (c.put_row.ensures.row kept)
          (at ∙ sym (length-contents kept left)) (ap (option_map (given kept)) c.in-Some-slot.is)
          (ap (contents kept) c.in-Some.ensures.items ∙ last-contents kept left slot)
          (omega (arith, room, length-contents kept left, length-contents kept slots))
          ∙ c.loop-slot.invariant.rest kept;
      numbers = λ kept before more.
          let both = c.loop-slot.invariant.numbers kept before more in
          let split = but-last-numbers kept left slot (subst (HaveNumbers kept) c.in-Some.ensures.items both.1) in
          let one = subst (λ (s : Option Taken). IfSome s (HasNumbers kept)) c.in-Some-slot.is split.1 in
          (c.put_row.ensures.numbers kept both.0 one, split.0);
    }

pub loop-slot-preserved : goal.loop-slot-preserved
loop-slot-preserved c =
    let slots = c.loop-slot.slots.items in
    let whole = c.loop-slot.gained.items in
    let left = c.pop.new.self.items in
    let slot = c.in-Some.slot in
    let room : length left < length slots = grind (arith, common_steps) in
    record {
      fits = grind (arith, common_steps);
      rest = λ kept.
          put_none (contents kept slots) (contents kept left) (contents kept whole) (option_map (given kept) slot)
          (ap (option_map (given kept)) c.in_default-slot.is)
          (ap (contents kept) c.in-Some.ensures.items ∙ last-contents kept left slot)
          (omega (arith, room, length-contents kept left, length-contents kept slots))
          ∙ c.loop-slot.invariant.rest kept;
      numbers = λ kept before more.
          let both = c.loop-slot.invariant.numbers kept before more in
          let split = but-last-numbers kept left slot (subst (HaveNumbers kept) c.in-Some.ensures.items both.1) in
          (both.0, split.0);
    }

pub returns-clause-rows : goal.returns-clause-rows
returns-clause-rows c = λ kept.
    let none = nothing-before c.pop.new.self.items c.loop-slot.gained.items c.in_default.ensures.items
    (grind (arith, common_steps)) in
    sym (ap (λ (ss : List (Option Taken)). join (contents kept c.loop-slot.slots.items) (contents kept ss)) none
    ∙ join-nil (contents kept c.loop-slot.slots.items)) ∙ c.loop-slot.invariant.rest kept

pub returns-clause-numbers : goal.returns-clause-numbers
returns-clause-numbers c = λ kept before more. (c.loop-slot.invariant.numbers kept before more).0
