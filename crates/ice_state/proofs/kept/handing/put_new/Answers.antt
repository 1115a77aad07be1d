use Rattle.std.proofs.Common.{◌<◌, ◌++◌, Some, arith, length, subst, sym}
use Rattle.std.specs.List.Sorted.{IsPermutation}
use Rattle.ice_state.specs.Contents.{Content}
use Rattle.ice_state.specs.Outcomes.{entries_in, kept_in}
use Rattle.ice_state.specs.Slots.{contents, given}
use Rattle.ice_state.proofs.DeletesKept.{entries_with_row, if_moved}
use Rattle.ice_state.proofs.SlotContents.{length-contents}
use Rattle.ice_state.proofs.kept.handing.put_new.Goals as goal

pub returns-clause-state : goal.returns-clause-state
returns-clause-state c =
    let kept = c.args.entries.now in
    let slots = c.args.slots.now.items in
    let before = contents kept slots in
    let taken = given kept c.args.taken in
    let low : c.args.i < length before = omega (arith, c.requires.row, length-contents kept slots) in
    let same = subst (λ (cs : Content). IsPermutation (kept_in before ++ entries_in (Some taken)) (kept_in cs))
    (sym (c.put_row.ensures.row kept)) (entries_with_row before c.args.i taken low c.requires.new) in
    record {
      numbers = c.put_row.ensures.numbers kept c.requires.state.numbers c.requires.numbers;
      all_deletes = if_moved kept (kept_in before ++ entries_in (Some taken))
          (kept_in (contents kept c.put_row.new.slots.items)) c.with_taken-deletes.result same
          (c.with_taken-deletes.ensures (kept_in before) c.requires.state.all_deletes);
    }
