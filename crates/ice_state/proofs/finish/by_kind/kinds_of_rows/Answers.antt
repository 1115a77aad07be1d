use Rattle.std.proofs.Common.{◌<◌, ◌++◌, List, ℕ, ap, arith, get_or, length, option_map, refl, subst, take}
use Rattle.std.proofs.lemmas.List.{take_all}
use Rattle.ice_manifest_reading.specs.declared.entry.Entry.{Entry}
use Rattle.ice_state.specs.ByKind.{HasFilesOf}
use Rattle.ice_state.specs.Orders.{runs_at}
use Rattle.ice_state.specs.Outcomes.{by_path, entries_in}
use Rattle.ice_state.specs.Slots.{contents, given}
use Rattle.ice_state.proofs.RankedIndex.{order_below}
use Rattle.ice_state.proofs.RowsMoved.{at_row, row_more, slot_numbers}
use Rattle.ice_state.proofs.SlotContents.{at-contents, length-contents}
use Rattle.ice_state.proofs.finish.by_kind.kinds_of_rows.Goals as goal

pub bounds-slots-row : goal.bounds-slots-row
bounds-slots-row c =
    order_below (length c.args.slots.now) c.args.rows.now c.requires.rows c.rows.row-index 0 c.rows-test.true

pub push_row-requires : goal.push_row-requires
push_row-requires c =
    let slots = c.args.slots.now in
    let rows = c.args.rows.now in
    let below = order_below (length slots) rows c.requires.rows c.rows.row-index 0 c.rows-test.true in
    slot_numbers c.args.entries.now slots (get_or rows c.rows.row-index 0) c.index-slots-row.result
    c.index-slots-row.is below c.requires.numbers

pub rows-preserved : goal.rows-preserved
rows-preserved c =
    let kept = c.args.entries.now in
    let slots = c.args.slots.now in
    let rows = c.args.rows.now in
    let i = c.rows.row-index in
    let row = get_or rows i 0 in
    let slot = c.index-slots-row.result in
    let cs = contents kept slots in
    let run = by_path (entries_in (option_map (given kept) slot)) in
    let old = runs_at cs (take i rows) in
    let below : row < length slots = order_below (length slots) rows c.requires.rows i 0 c.rows-test.true in
    let here = ap (λ s. by_path (entries_in s)) (at_row cs row (option_map (given kept) slot)
    (omega (arith, below, length-contents kept slots)) (at-contents kept slots row slot c.index-slots-row.is)) in
    subst (λ (xs : List Entry). HasFilesOf kept xs c.push_row.new.files)
    (row_more cs rows i 0 old (old ++ run) run c.rows-test.true refl here refl)
    (c.in_ok-push_row.ensures old c.rows.invariant)

pub returns : goal.returns
returns c =
    let kept = c.args.entries.now in
    let rows = c.args.rows.now in
    subst (λ (ns : List ℕ). HasFilesOf kept (runs_at (contents kept c.args.slots.now) ns) c.rows.files)
    (take_all c.rows.row-index rows (omega (arith, c.rows-test.false))) c.rows.invariant
