use Rattle.std.proofs.Common.{◌∙◌, ◌≡◌, ◌<◌, ◌++◌, ap, subst, sym, length, get_or, List, Option, Some, IfSome, arith}
use Rattle.std.proofs.Common.{false}
use Rattle.std.proofs.lemmas.Result.{err_from_is_err_and}
use Rattle.ice_manifest_reading.specs.declared.row.Row.{Row}
use Rattle.ice_state.specs.Contents.{Content, is_row_taken, with_row}
use Rattle.ice_state.specs.Readings.{Reading}
use Rattle.ice_state.specs.Slots.{contents, given}
use Rattle.ice_state.proofs.Contents.{with_row-took}
use Rattle.ice_state.proofs.SlotContents.{contents-kept, length-contents}
use Rattle.ice_state.proofs.DeletesKept.{entries_with_row, if_moved, if_some_of, state_kept}
use Rattle.std.specs.List.Sorted.{IsPermutation}
use Rattle.ice_state.specs.declared.kept.deletes.KeptDeletes.{KeptDeletes}
use Rattle.ice_state.specs.KeptDeletes.{AreDeletes, AreDeletesOf}
use Rattle.ice_state.specs.Outcomes.{entries_in, kept_in}
use Rattle.ice_manifest_reading.specs.Telling.{told_of}
use Rattle.ice_state.proofs.Taking.{manifest_is}
use Rattle.ice_state.proofs.partial.Partial.take_new.Goals as goal

pub invariant_of-self : goal.invariant_of-self
invariant_of-self g c = state_kept c.self.inside.entries c.take_manifest.new.entries c.self.inside.slots.items
    c.self.inside.deletes c.take_manifest.ensures.keeps c.self.invariant

pub returns-in_err-taken-clause-err : goal.returns-in_err-taken-clause-err
returns-in_err-taken-clause-err g c =
    let p = err_from_is_err_and c.from_residual-in_err-taken.result c.from_residual-in_err-taken.ensures.1 in
    rw p.1 (contents-kept c.self.inside.entries c.take_manifest.new.entries c.take_manifest.ensures.keeps
    c.self.inside.slots.items c.self.invariant.numbers ∙ c.self.view_is)

pub with_taken-requires : goal.with_taken-requires
with_taken-requires g c =
    let new = c.take_manifest.new.entries in
    let slots = c.self.inside.slots.items in
    let state = state_kept c.self.inside.entries new slots c.self.inside.deletes c.take_manifest.ensures.keeps
    c.self.invariant in
    record {
      numbers = c.in_ok-taken.ensures.numbers;
      deletes =
          subst (λ (d : Option KeptDeletes). IfSome d (AreDeletes new)) (sym c.take.ensures.value)
          (if_some_of new (kept_in (contents new slots)) c.self.inside.deletes state.all_deletes);
    }

pub invariant_of-self-2 : goal.invariant_of-self-2
invariant_of-self-2 g c =
    let new = c.take_manifest.new.entries in
    let slots = c.self.inside.slots.items in
    let taken = given new c.in_ok-taken.field-0.taken in
    let before = contents new slots in
    let state = state_kept c.self.inside.entries new slots c.self.inside.deletes c.take_manifest.ensures.keeps
    c.self.invariant in
    let free : is_row_taken before c.args.i ≡ false =
    ap (λ (s : Content). is_row_taken s c.args.i)
    (contents-kept c.self.inside.entries new c.take_manifest.ensures.keeps slots c.self.invariant.numbers
    ∙ c.self.view_is) ∙ c.requires.new in
    let was : IfSome c.take.result (AreDeletesOf new (kept_in before)) =
    subst (λ (d : Option KeptDeletes). IfSome d (AreDeletesOf new (kept_in before))) (sym c.take.ensures.value)
    state.all_deletes in
    let of : length c.args.self.now ≡ length c.args.scan.now.wanted = c.requires.of_scan in
    let low : c.args.i < length before =
    omega (
      arith,
      c.requires.row,
      of,
      ap length c.self.view_is,
      length-contents c.self.inside.entries slots,
      length-contents new slots,
    ) in
    let same = subst (λ (cs : Content). IsPermutation (kept_in before ++ entries_in (Some taken)) (kept_in cs))
    (sym (c.put_row.ensures.row new)) (entries_with_row before c.args.i taken low free) in
    record {
      numbers = c.put_row.ensures.numbers new state.numbers c.in_ok-taken.ensures.numbers;
      all_deletes = if_moved new (kept_in before ++ entries_in (Some taken))
          (kept_in (contents new c.put_row.new.slots.items))
          c.with_taken.result same (c.with_taken.ensures (kept_in before) was);
    }

pub returns-clause-ok : goal.returns-clause-ok
returns-clause-ok g c =
    let row = c.index-wanted-i.is ∙ ap (λ (rs : List Row). get_or rs c.args.i c.index-wanted-i.result)
    c.wanted.ensures in
    let new = c.take_manifest.new.entries in
    let step = with_row-took c.args.scan.now c.args.self.now c.args.scan.now.wanted c.args.i c.args.bytes.now
    c.index-wanted-i.result c.in_ok-filter.filter c.in_ok-filter.ensures.filter c.requires.row row
    c.in_ok-filter.ensures.spec in
    c.put_row.ensures.row new
    ∙ ap (λ (s : Content). with_row s c.args.i (given new c.in_ok-taken.field-0.taken))
    (contents-kept c.self.inside.entries new c.take_manifest.ensures.keeps c.self.inside.slots.items
    c.self.invariant.numbers
    ∙ c.self.view_is)
    ∙ ap (λ (r : Reading). with_row c.args.self.now c.args.i r) c.in_ok-taken.ensures.given ∙ step

pub returns-clause-told : goal.returns-clause-told
returns-clause-told g c = λ row at.
    let here = c.index-wanted-i.is ∙ ap (λ (rs : List Row). get_or rs c.args.i c.index-wanted-i.result)
    c.wanted.ensures in
    c.in_ok-taken.ensures.told ∙ ap (told_of (g.T.Tell.told c.args.tell.now))
    (sym (manifest_is c.args.scan.now c.args.i row c.index-wanted-i.result c.in_ok-filter.filter.spec
    c.args.bytes.now at here c.in_ok-filter.ensures.spec))
