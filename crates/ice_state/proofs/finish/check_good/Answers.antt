use Rattle.std.proofs.Common.{◌<◌, arith, add-one, ap, sym, subst, ◌∙◌, drop, length, option_map, List}
use Rattle.ice_state.specs.declared.fault.FinishFault.{FinishFault}
use Rattle.ice_state.specs.declared.fault.FinishFault.TheVariants as faults
use Rattle.ice_state.specs.Parts.{IsFirst}
use Rattle.std.specs.Option.{option_copied}
use Rattle.ice_manifest_reading.specs.declared.row.Row.{Row}
use Rattle.ice_state.specs.Outcomes.{bad}
use Rattle.ice_state.specs.Slots.{contents, given}
use Rattle.ice_state.proofs.Outcomes.{bad_step, bad_first, bad_end}
use Rattle.ice_state.proofs.SlotContents.{at-contents, length-contents}
use Rattle.ice_state.proofs.finish.check_good.Goals as goal

pub loop-i-preserved : goal.loop-i-preserved
loop-i-preserved c = λ kept.
    let slots = c.args.slots.now in
    let slot = c.index-slots-i.result in
    let within : c.loop-i.i < length (contents kept slots) = omega (arith, length-contents kept slots) in
    let step = bad_step c.args.rows.now (contents kept slots) c.loop-i.i (option_map (given kept) slot) (omega arith)
    within (at-contents kept slots c.loop-i.i slot c.index-slots-i.is)
    (sym (c.fault_in.ensures kept) ∙ ap option_copied c.in_default.is) in
    rw (add-one, step) (c.loop-i.invariant kept)

pub returns-in-Some : goal.returns-in-Some
returns-in-Some c = λ kept.
    let slots = c.args.slots.now in
    let slot = c.index-slots-i.result in
    let within : c.loop-i.i < length (contents kept slots) = omega (arith, length-contents kept slots) in
    let fault = c.in-Some.fault.now in
    let first = bad_first c.args.rows.now (contents kept slots) c.loop-i.i c.index-rows-i.result
    (option_map (given kept) slot) fault (omega arith) within c.index-rows-i.is
    (at-contents kept slots c.loop-i.i slot c.index-slots-i.is)
    (sym (c.fault_in.ensures kept) ∙ ap option_copied c.in-Some.is) in
    rw (c.in_ok-copy.ensures, c.in_ok-copy-2.ensures) (subst (λ (row : Row). IsFirst (faults.Bad row.path fault)
    (bad c.args.rows.now (contents kept slots))) c.index-rows-i.is
    (subst (λ (fs : List FinishFault). IsFirst (faults.Bad c.index-rows-i.result.path fault) fs)
    (c.loop-i.invariant kept) first))

pub returns : goal.returns
returns c = λ kept.
    sym (c.loop-i.invariant kept)
    ∙ bad_end c.args.rows.now (drop c.loop-i.i (contents kept c.args.slots.now)) c.loop-i.i (omega arith)
