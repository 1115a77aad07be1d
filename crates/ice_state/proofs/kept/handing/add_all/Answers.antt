use Rattle.std.proofs.Common.{◌∙◌, ◌++◌, [], ◌∷◌, List, ap, subst, sym, take}
use Rattle.std.proofs.lemmas.List.{take_more}
use Rattle.ice_manifest_reading.specs.declared.entry.Entry.{Entry}
use Rattle.ice_state_entries.specs.declared.entries.EntryNumber.{EntryNumber}
use Rattle.ice_state_entries.specs.Kept.{AreKept, entries_at}
use Rattle.ice_state.specs.Segments.{segment_at}
use Rattle.ice_state.proofs.OneSegment.{one_more}
use Rattle.ice_state.proofs.SegmentLists.{keeps-trans}
use Rattle.ice_state.proofs.kept.handing.add_all.Goals as goal

pub returns-in_err-add-clause-keeps : goal.returns-in_err-add-clause-keeps
returns-in_err-add-clause-keeps c =
    keeps-trans c.args.entries.now c.added.entries c.add.new.self c.added.invariant.keeps c.add.ensures.keeps

pub returns-in_err-push-clause-keeps : goal.returns-in_err-push-clause-keeps
returns-in_err-push-clause-keeps c =
    keeps-trans c.args.entries.now c.added.entries c.add.new.self c.added.invariant.keeps c.add.ensures.keeps

pub added-preserved : goal.added-preserved
added-preserved c =
    let l = c.added in
    let here = c.add.ensures.keeps c.args.segment l.invariant.there in
    let old = segment_at l.entries c.args.segment in
    let new = segment_at c.add.new.self c.args.segment in
    let e = c.entry-item.result in
    let more = one_more old new l.numbers.items c.in_ok-add.field-0 e here.1 l.invariant.kept
    c.in_ok-add.ensures.kept (c.in_ok-add.ensures.ok ∙ c.lent.ensures) in
    let step = take_more c.args.added.now l.entry-index e c.added-test.true in
    record {
      there = here.0;
      keeps = keeps-trans c.args.entries.now l.entries c.add.new.self l.invariant.keeps c.add.ensures.keeps;
      kept = subst (λ (ns : List EntryNumber). AreKept new ns) (sym c.in_ok-push.ensures.items) more.kept;
      same = ap (entries_at new) c.in_ok-push.ensures.items ∙ more.entries
          ∙ ap (λ (es : List Entry). es ++ e ∷ []) l.invariant.same
          ∙ sym (step ∙ ap (λ (x : Entry). take l.entry-index c.args.added.now ++ x ∷ []) (sym c.entry-item.is));
    }
