use Rattle.std.proofs.Common.{◌≡◌, ◌∙◌, ◌++◌, [], ◌∷◌, List, ap, get_or, length, subst, sym, take}
use Rattle.std.proofs.lemmas.List.{get_or_default}
use Rattle.ice_manifest_reading.specs.declared.entry.Entry.{Entry}
use Rattle.ice_state_entries.specs.declared.entries.EntryNumber.{EntryNumber}
use Rattle.ice_state_entries.specs.Kept.{AreKept, entries_at, no_entry}
use Rattle.ice_state.specs.Lines.{entries_at as entries_at_places}
use Rattle.ice_state.specs.Segments.{segment_at}
use Rattle.ice_state.proofs.OneSegment.{one_more}
use Rattle.ice_state.proofs.Positions.{entry_more, place_within}
use Rattle.ice_state.proofs.SegmentLists.{keeps-trans}
use Rattle.ice_state.proofs.kept.ordered.add_in_order.Goals as goal

pub returns-in_err-add-clause-keeps : goal.returns-in_err-add-clause-keeps
returns-in_err-add-clause-keeps c =
    keeps-trans c.args.entries.now c.order.entries c.add.new.self c.order.invariant.keeps c.add.ensures.keeps

pub returns-in_err-push-clause-keeps : goal.returns-in_err-push-clause-keeps
returns-in_err-push-clause-keeps c =
    keeps-trans c.args.entries.now c.order.entries c.add.new.self c.order.invariant.keeps c.add.ensures.keeps

pub order-preserved : goal.order-preserved
order-preserved c =
    let l = c.order in
    let views = c.args.views.now in
    let places = c.args.order.now in
    let i = l.place-index in
    let here = c.add.ensures.keeps c.args.segment l.invariant.there in
    let old = segment_at l.entries c.args.segment in
    let new = segment_at c.add.new.self c.args.segment in
    let place = get_or places i 0 in
    let low = place_within (length views) places i c.requires.within c.order-test.true in
    let e = get_or views place no_entry in
    let view = c.index-views-place.result in
    let at : view ≡ e = c.index-views-place.is ∙ get_or_default views place view no_entry low in
    let more = one_more old new l.numbers.items c.in_ok-add.field-0 e here.1 l.invariant.kept
    c.in_ok-add.ensures.kept (c.in_ok-add.ensures.ok ∙ c.lent.ensures.same ∙ at) in
    record {
      there = here.0;
      keeps = keeps-trans c.args.entries.now l.entries c.add.new.self l.invariant.keeps c.add.ensures.keeps;
      kept = subst (λ (ns : List EntryNumber). AreKept new ns) (sym c.in_ok-push.ensures.items) more.kept;
      same = ap (entries_at new) c.in_ok-push.ensures.items ∙ more.entries
          ∙ ap (λ (es : List Entry). es ++ e ∷ []) l.invariant.same
          ∙ entry_more views places i c.order-test.true c.requires.within;
    }
