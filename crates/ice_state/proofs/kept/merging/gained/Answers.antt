use Rattle.std.proofs.Common.{◌∙◌, ◌<◌, ◌≡◌, ◌++◌, [], ◌∷◌, suc, Option, ap, sym, subst, arith, add-one, append_assoc}
use Rattle.std.proofs.Common.{drop}
use Rattle.std.proofs.Common.{length, option_map}
use Rattle.ice_state.specs.Contents.{Content}
use Rattle.ice_state.specs.Parts.{gain_of, gains}
use Rattle.ice_state.specs.Readings.{Reading}
use Rattle.ice_state.specs.Slots.{contents, given, HaveNumbers}
use Rattle.ice_state.proofs.Gains.{behind-nothing, gains-step, gains-end}
use Rattle.ice_state.proofs.SegmentLists.{keeps-trans}
use Rattle.ice_state.proofs.SlotContents.{at-contents, contents-kept, have-kept, last-contents, last-numbers}
use Rattle.ice_state.proofs.SlotContents.{length-contents}
use Rattle.ice_state.proofs.kept.merging.gained.Goals as goal

pub loop-i-preserved : goal.loop-i-preserved
loop-i-preserved c =
    let slots = c.args.slots.now in
    let other = c.args.other.now in
    let others = c.args.others.now in
    let i = c.loop-i.i in
    let was = c.loop-i.entries in
    let is = c.gain.new.entries in
    let before = c.loop-i.gained.items in
    let slot = c.index-slots-i.result in
    let its = c.index-other-i.result in
    let one = c.in_ok-gain.field-0 in
    let keeps = c.in_ok-gain.ensures.keeps in
    let pushed : c.push.new.self.items ≡ before ++ one ∷ [] = c.in_ok-push.ensures.items in
    record {
      keeps = keeps-trans c.args.entries.now was is c.loop-i.invariant.keeps keeps;
      numbers =
          subst (HaveNumbers is) (sym pushed)
          (last-numbers is before one (have-kept was is keeps before c.loop-i.invariant.numbers)
          c.in_ok-gain.ensures.numbers);
      gained = λ kept.
          let cs = contents kept slots in
          let ds = contents others other in
          let m : i < length cs = omega (arith, c.loop-i-test.true, length-contents kept slots) in
          let n : i < length ds = omega (arith, c.loop-i-test.true, c.requires.same, length-contents others other) in
          let gain = gain_of (option_map (given kept) slot) (option_map (given others) its) in
          let rest = gains (drop (suc i) cs) (drop (suc i) ds) in
          let all : contents is c.push.new.self.items ≡ contents was before ++ gain ∷ [] =
          ap (contents is) pushed ∙ last-contents is before one
          ∙ ap (λ (x : Content). x ++ option_map (given is) one ∷ [])
          (contents-kept was is keeps before c.loop-i.invariant.numbers)
          ∙ ap (λ (s : Option Reading). contents was before ++ s ∷ []) (c.in_ok-gain.ensures.gained kept) in
          let step = gains-step cs ds i (option_map (given kept) slot) (option_map (given others) its) m n
          (at-contents kept slots i slot c.index-slots-i.is) (at-contents others other i its c.index-other-i.is) in
          rw add-one (ap (λ (x : Content). x ++ rest) all ∙ append_assoc (contents was before) (gain ∷ []) rest
          ∙ ap (λ (x : Content). contents was before ++ x) (sym step) ∙ c.loop-i.invariant.gained kept);
    }

pub returns-in_err-gain-clause-keeps : goal.returns-in_err-gain-clause-keeps
returns-in_err-gain-clause-keeps c =
    keeps-trans c.args.entries.now c.loop-i.entries c.gain.new.entries c.loop-i.invariant.keeps c.gain.ensures.keeps

pub returns-in_err-push-clause-keeps : goal.returns-in_err-push-clause-keeps
returns-in_err-push-clause-keeps c =
    keeps-trans c.args.entries.now c.loop-i.entries c.gain.new.entries c.loop-i.invariant.keeps c.gain.ensures.keeps

pub returns-clause-gained : goal.returns-clause-gained
returns-clause-gained c = λ kept.
    let slots = c.args.slots.now in
    let other = c.args.other.now in
    let others = c.args.others.now in
    let rest = drop c.loop-i.i (contents others other) in
    sym (behind-nothing (contents c.loop-i.entries c.loop-i.gained.items) (gains (drop c.loop-i.i (contents kept slots))
    rest) (gains-end (contents kept slots) rest c.loop-i.i (omega (arith, length-contents kept slots))))
    ∙ c.loop-i.invariant.gained kept
