use Rattle.std.proofs.Common.{◌∙◌, Option, ap, subst, sym}
use Rattle.std.proofs.lemmas.Result.{err_from_is_err_and}
use Rattle.ice_state.specs.declared.kept.deletes.KeptDeletes.{KeptDeletes}
use Rattle.ice_state.specs.Contents.{Content, is_row_taken, with_row}
use Rattle.ice_state.specs.KeptDeletes.{IsState}
use Rattle.ice_state.specs.Readings.{Good, Reading}
use Rattle.ice_state.specs.Slots.{given}
use Rattle.ice_state.proofs.DeletesKept.{state_kept}
use Rattle.ice_state.proofs.SlotContents.{contents-kept}
use Rattle.ice_state.proofs.Taking.{taken_row_stays}
use Rattle.ice_state.proofs.partial.Partial.put_entries.Goals as goal

pub returns-then-is_taken-clause-ok : goal.returns-then-is_taken-clause-ok
returns-then-is_taken-clause-ok c =
    taken_row_stays c.args.self.now c.args.i (Good c.args.entries.now) (sym c.is_taken.ensures ∙ c.if-is_taken.true)

pub invariant_of-self : goal.invariant_of-self
invariant_of-self c = state_kept c.self.inside.entries c.taken_of.new.entries c.self.inside.slots.items
    c.self.inside.deletes c.taken_of.ensures.keeps c.self.invariant

pub returns-in_err-taken-clause-err : goal.returns-in_err-taken-clause-err
returns-in_err-taken-clause-err c =
    let p = err_from_is_err_and c.from_residual.result c.from_residual.ensures.1 in
    rw p.1 (contents-kept c.self.inside.entries c.taken_of.new.entries c.taken_of.ensures.keeps
    c.self.inside.slots.items c.self.invariant.numbers ∙ c.self.view_is)

pub put_new-requires-clause-new : goal.put_new-requires-clause-new
put_new-requires-clause-new c =
    ap (λ (s : Content). is_row_taken s c.args.i)
    (contents-kept c.self.inside.entries c.taken_of.new.entries c.taken_of.ensures.keeps c.self.inside.slots.items
    c.self.invariant.numbers ∙ c.self.view_is)
    ∙ sym c.is_taken.ensures ∙ c.if-is_taken.false

pub put_new-requires-clause-state : goal.put_new-requires-clause-state
put_new-requires-clause-state c =
    let new = c.taken_of.new.entries in
    let slots = c.self.inside.slots.items in
    subst (λ (d : Option KeptDeletes). IsState new slots d) (sym c.take.ensures.value)
    (state_kept c.self.inside.entries new slots c.self.inside.deletes c.taken_of.ensures.keeps c.self.invariant)

pub returns-clause-ok : goal.returns-clause-ok
returns-clause-ok c =
    let new = c.taken_of.new.entries in
    c.put_new.ensures.row
    ∙ ap (λ (s : Content). with_row s c.args.i (given new c.in_ok-taken.taken))
    (contents-kept c.self.inside.entries new c.taken_of.ensures.keeps c.self.inside.slots.items
    c.self.invariant.numbers ∙ c.self.view_is)
    ∙ ap (λ (r : Reading). with_row c.args.self.now c.args.i r) c.in_ok-taken.ensures.given
