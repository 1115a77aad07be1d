use Rattle.std.proofs.Common.{◌∙◌, ◌<◌, refl, sym, arith, add-one, drop, length, option_map}
use Rattle.ice_state.specs.Slots.{contents, given}
use Rattle.ice_state.proofs.Gains.{gain_at, all_step, all-end}
use Rattle.ice_state.proofs.SlotContents.{at-contents, length-contents}
use Rattle.ice_state.proofs.kept.merging.has_taken_all_of.Goals as goal

pub returns-then-is_gain : goal.returns-then-is_gain
returns-then-is_gain c = λ kept others.
    let slots = c.args.slots.now in
    let other = c.args.other.now in
    let i = c.loop-i.i in
    let m : i < length (contents kept slots) = omega (arith, c.loop-i-test.true, length-contents kept slots) in
    let n : i < length (contents others other) = omega (
      arith,
      c.loop-i-test.true,
      c.requires,
      length-contents others other,
    ) in (
      λ h. cc,
      λ all. absurd (gain_at (contents kept slots) (contents others other) i
          (option_map (given kept) c.index-slots-i.result) (option_map (given others) c.index-other-i.result) m n
          (at-contents kept slots i c.index-slots-i.result c.index-slots-i.is)
          (at-contents others other i c.index-other-i.result c.index-other-i.is)
          (sym (c.is_gain.ensures kept others) ∙ c.if-is_gain.true) all),
    )

pub loop-i-preserved : goal.loop-i-preserved
loop-i-preserved c = λ kept others.
    let slots = c.args.slots.now in
    let other = c.args.other.now in
    let i = c.loop-i.i in
    let m : i < length (contents kept slots) = omega (arith, c.loop-i-test.true, length-contents kept slots) in
    let n : i < length (contents others other) = omega (
      arith,
      c.loop-i-test.true,
      c.requires,
      length-contents others other,
    ) in
    rw add-one (λ rest. c.loop-i.invariant kept others
    (all_step (contents kept slots) (contents others other) i (option_map (given kept) c.index-slots-i.result)
    (option_map (given others) c.index-other-i.result) m n
    (at-contents kept slots i c.index-slots-i.result c.index-slots-i.is)
    (at-contents others other i c.index-other-i.result c.index-other-i.is)
    (sym (c.is_gain.ensures kept others) ∙ c.if-is_gain.false) rest))

pub returns : goal.returns
returns c = λ kept others.
    let slots = c.args.slots.now in
    let other = c.args.other.now in (
      λ h. c.loop-i.invariant kept others (all-end (contents kept slots) (drop c.loop-i.i (contents others other))
          c.loop-i.i (omega (arith, length-contents kept slots))),
      λ h. refl,
    )
