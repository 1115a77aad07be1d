use Rattle.std.proofs.Common.{◌∙◌, ◌<◌, ◌≡◌, ◌&&◌, true, false, is_some, refl, sym, arith, add-one, drop, length}
use Rattle.std.proofs.Common.{option_map}
use Rattle.ice_state.specs.Slots.{contents, given}
use Rattle.ice_state.proofs.Gains.{apart-step, apart-end, both_at}
use Rattle.ice_state.proofs.SlotContents.{at-contents, is-some-given, length-contents}
use Rattle.ice_state.proofs.kept.merging.are_apart.Goals as goal

pub returns-then-are_taken : goal.returns-then-are_taken
returns-then-are_taken c = λ kept others.
    let slots = c.args.slots.now in
    let other = c.args.other.now in
    let i = c.loop-i.i in
    let slot = c.index-slots-i.result in
    let its = c.index-other-i.result in
    let m : i < length (contents kept slots) = omega (arith, c.loop-i-test.true, length-contents kept slots) in
    let n : i < length (contents others other) = omega (
      arith,
      c.loop-i-test.true,
      c.requires,
      length-contents others other,
    ) in
    let both : (is_some (option_map (given kept) slot) && is_some (option_map (given others) its)) ≡ true =
    rw (is-some-given kept slot, is-some-given others its) (sym c.are_taken.ensures ∙ c.if-are_taken.true) in (
      λ h. cc,
      λ apart. absurd (both_at (contents kept slots) (contents others other) i (option_map (given kept) slot)
          (option_map (given others) its) m n (at-contents kept slots i slot c.index-slots-i.is)
          (at-contents others other i its c.index-other-i.is) both apart),
    )

pub loop-i-preserved : goal.loop-i-preserved
loop-i-preserved c = λ kept others.
    let slots = c.args.slots.now in
    let other = c.args.other.now in
    let i = c.loop-i.i in
    let slot = c.index-slots-i.result in
    let its = c.index-other-i.result in
    let m : i < length (contents kept slots) = omega (arith, c.loop-i-test.true, length-contents kept slots) in
    let n : i < length (contents others other) = omega (
      arith,
      c.loop-i-test.true,
      c.requires,
      length-contents others other,
    ) in
    let apart : (is_some (option_map (given kept) slot) && is_some (option_map (given others) its)) ≡ false =
    rw (is-some-given kept slot, is-some-given others its) (sym c.are_taken.ensures ∙ c.if-are_taken.false) in
    rw add-one (λ rest. c.loop-i.invariant kept others
    (apart-step (contents kept slots) (contents others other) i (option_map (given kept) slot)
    (option_map (given others) its) m n (at-contents kept slots i slot c.index-slots-i.is)
    (at-contents others other i its c.index-other-i.is) apart rest))

pub returns : goal.returns
returns c = λ kept others.
    let slots = c.args.slots.now in
    let other = c.args.other.now in (
      λ h. c.loop-i.invariant kept others (apart-end (contents kept slots) (drop c.loop-i.i (contents others other))
          c.loop-i.i (omega (arith, length-contents kept slots))),
      λ h. refl,
    )
