use Rattle.std.proofs.Common.{◌≡◌, ◌<◌, map, length, take, get_or, refl, sym, ap, subst, ◌∙◌, List, false}
use Rattle.std.proofs.lemmas.List.{take-map, length-map, get_or-map}
use Rattle.ice_manifest_reading.specs.Lending.{lent}
use Rattle.ice_manifest_reading.specs.declared.entry.LentEntry.{LentEntry}
use Rattle.ice_state_sections.specs.Entries.{entry, entry_behind, fits, Known, known, seen}
use Rattle.ice_state_sections.specs.Written.{Adds}
use Rattle.ice_state_sections.proofs.Added.{none_yet, goes_further, goes_all}
use Rattle.ice_state_sections.proofs.EntriesAdded.{same_number}
use Rattle.ice_state_sections.proofs.OfRow.{not_of_row}
use Rattle.ice_state_sections.proofs.entry_writing.add_each.Goals as goal

pub entries-init : goal.entries-init
entries-init c = none_yet (entry c.args.row.now c.args.spec.now) _

pub entries-preserved : goal.entries-preserved
entries-preserved c =
    let row = c.args.row.now in
    let spec = c.args.spec.now in
    let xs = c.args.entries.now in
    let i = c.entries.index in
    let x = c.index-entries-index.result in
    let front : map lent c.split_at.result.0.now ≡ take i (map lent xs) =
    ap (λ (l : List LentEntry). map lent l) c.split_at.ensures.front ∙ sym (take-map lent i xs) in
    let is_known : seen c.behind_lent-before.result ≡ known row (take i (map lent xs)) =
    c.behind_lent-before.ensures ∙ ap (known row) front in
    let put = subst (λ (k : Known). Adds (entry_behind row spec k) (lent x) c.entries.bytes.items
    c.in_ok-bytes.bytes.items) is_known c.in_ok-bytes.ensures in
    let within : i < length (map lent xs) = rw length-map c.entries-test.true in
    let here : lent x ≡ get_or (map lent xs) i (lent x) =
    ap lent c.index-entries-index.is ∙ sym (get_or-map lent xs i x (lent x) c.entries-test.true) in
    goes_further (entry row spec) (map lent xs) i (lent x) _ _ _ within here c.entries.invariant put

pub returns-then-not-fits-clause-err : goal.returns-then-not-fits-clause-err
returns-then-not-fits-clause-err c = λ _.
    let row = c.args.row.now in
    let spec = c.args.spec.now in
    let xs = c.args.entries.now in
    let i = c.entries.index in
    let x = c.index-entries-index.result in
    let front : map lent c.split_at.result.0.now ≡ take i (map lent xs) =
    ap (λ (l : List LentEntry). map lent l) c.split_at.ensures.front ∙ sym (take-map lent i xs) in
    let is_known : seen c.behind_lent-before.result ≡ known row (take i (map lent xs)) =
    c.behind_lent-before.ensures ∙ ap (known row) front in
    let fits_not : fits row spec (known row (take i (map lent xs))) (lent x) ≡ false =
    ap (λ (k : Known). fits row spec k (lent x)) (sym is_known) ∙ sym c.fits.ensures ∙ c.if-not-fits.true in
    let within : i < length (map lent xs) = rw length-map c.entries-test.true in
    let here : lent x ≡ get_or (map lent xs) i (lent x) =
    ap lent c.index-entries-index.is ∙ sym (get_or-map lent xs i x (lent x) c.entries-test.true) in
    (refl, not_of_row row spec (map lent xs) i (lent x) within here fits_not)

pub returns-clause-ok : goal.returns-clause-ok
returns-clause-ok c =
    let xs = c.args.entries.now in
    let ends = goes_all (entry c.args.row.now c.args.spec.now) (map lent xs) c.entries.index _ _
    (rw length-map c.entries-test.false) c.entries.invariant in
    same_number c.args.row.now c.args.spec.now (map lent xs) _ _ _ _ (length-map xs lent) ends
