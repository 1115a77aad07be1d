use Rattle.std.proofs.Common.{◌<◌, ◌∙◌, sym, subst, rules, arith, add-one, drop, length, option_map, List}
use Rattle.ice_state.specs.declared.fault.FinishFault.{FinishFault}
use Rattle.ice_state.specs.declared.fault.FinishFault.TheVariants as faults
use Rattle.ice_state.specs.Parts.{IsFirst}
use Rattle.ice_manifest_reading.specs.declared.row.Row.{Row}
use Rattle.ice_state.specs.Outcomes.{missing}
use Rattle.ice_state.specs.Slots.{contents, given}
use Rattle.ice_state.proofs.Outcomes.{missing_step, missing_first, missing_end}
use Rattle.ice_state.proofs.SlotContents.{at-contents, is-none-given, length-contents}
use Rattle.ice_state.proofs.finish.check_taken.Goals as goal

pub loop-i-preserved : goal.loop-i-preserved
loop-i-preserved c = λ kept.
    let slots = c.args.slots.now in
    let slot = c.index-slots-i.result in
    let within : c.loop-i.i < length (contents kept slots) = omega (arith, length-contents kept slots) in
    let step = missing_step c.args.rows.now (contents kept slots) c.loop-i.i (option_map (given kept) slot)
    (omega arith)
    within (at-contents kept slots c.loop-i.i slot c.index-slots-i.is) (is-none-given kept slot ∙ search rules) in
    rw (add-one, step) (c.loop-i.invariant kept)

pub returns-then-is_none : goal.returns-then-is_none
returns-then-is_none c = λ kept.
    let slots = c.args.slots.now in
    let slot = c.index-slots-i.result in
    let within : c.loop-i.i < length (contents kept slots) = omega (arith, length-contents kept slots) in
    let first = missing_first c.args.rows.now (contents kept slots) c.loop-i.i c.index-rows-i.result
    (option_map (given kept) slot) (omega arith) within c.index-rows-i.is
    (at-contents kept slots c.loop-i.i slot c.index-slots-i.is) (is-none-given kept slot ∙ search rules) in
    rw c.in_ok-copy.ensures (subst (λ (row : Row). IsFirst (faults.Missing row.path)
    (missing c.args.rows.now (contents kept slots))) c.index-rows-i.is
    (subst (λ (fs : List FinishFault). IsFirst (faults.Missing c.index-rows-i.result.path) fs)
    (c.loop-i.invariant kept) first))

pub returns : goal.returns
returns c = λ kept.
    sym (c.loop-i.invariant kept)
    ∙ missing_end c.args.rows.now (drop c.loop-i.i (contents kept c.args.slots.now)) c.loop-i.i (omega arith)
