use Rattle.std.proofs.Common.{◌≡◌, ◌<◌, ◌∙◌, ◌++◌, ◌∷◌, [], List, ap, arith, get_or, length, refl, subst, sym}
use Rattle.std.proofs.lemmas.List.{map-append, take_all}
use Rattle.ice_state_entries.specs.Kept.{entries_at as kept_at}
use Rattle.ice_state_entries.specs.declared.entries.EntryNumber.{EntryNumber}
use Rattle.ice_state_entries.specs.declared.entries.EntryNumber.TheVariants.{Record}
use Rattle.ice_manifest_reading.specs.declared.entry.Entry.{Entry}
use Rattle.ice_state.specs.declared.kept.segments.FileNumber.{FileNumber}
use Rattle.ice_state.specs.Lines.{entries_at as entries_at_places}
use Rattle.ice_state.specs.Segments.{AreKept, entry_at, entries_at, segment_at}
use Rattle.ice_state.proofs.Orders.{number_placed, put_more}
use Rattle.ice_state.proofs.Stretches.{kept_more}
use Rattle.ice_state.proofs.finish.by_kind.files_in_order.Goals as goal

pub order-preserved : goal.order-preserved
order-preserved c =
    let kept = c.args.entries.now in
    let segment = c.args.ordered.now.segment in
    let one = segment_at kept segment in
    let numbers = c.args.ordered.now.numbers in
    let places = c.args.ordered.now.order in
    let i = c.order.place-index in
    let old = c.order.files.items in
    let d : EntryNumber = Record 0 in
    let number : EntryNumber = get_or numbers (get_or places i 0) d in
    let file : FileNumber = record { segment = segment; number = number } in
    let more : i < length places = rw (← c.as_slice-place-items.ensures) c.order-test.true in
    let at : get_or c.as_slice-numbers.result.now (get_or c.as_slice-place-items.result.now i 0) d ≡ number =
    rw (c.as_slice-numbers.ensures, c.as_slice-place-items.ensures) refl in
    let pushed : c.push.new.self.items ≡ old ++ file ∷ [] = c.in_ok-push.ensures.items
    ∙ ap (λ (n : EntryNumber). old ++ (record { segment = segment; number = n }) ∷ []) at in
    let within = c.requires.1.order.within in
    record {
      kept = subst (AreKept kept) (sym pushed) (kept_more kept old file c.order.invariant.kept
          (c.requires.0, number_placed one numbers places i d more c.requires.1.numbers within));
      all =
          ap (entries_at kept) pushed ∙ map-append (entry_at kept) old (file ∷ [])
          ∙ ap (λ (xs : List Entry). xs ++ entry_at kept file ∷ []) c.order.invariant.all
          ∙ put_more one numbers places i d [] more within;
    }

pub returns-clause-all : goal.returns-clause-all
returns-clause-all c =
    let kept = c.args.entries.now in
    let one = segment_at kept c.args.ordered.now.segment in
    let places = c.args.ordered.now.order in
    let items = c.as_slice-place-items.result.now in
    c.order.invariant.all
    ∙ ap (entries_at_places (kept_at one c.args.ordered.now.numbers))
    (take_all c.order.place-index places (rw (← c.as_slice-place-items.ensures) (omega (arith, c.order-test.false))))
    ∙ c.requires.1.order.sorted
