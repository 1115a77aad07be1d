use Rattle.std.proofs.Common.{◌≡◌, ◌≤◌, ◌∙◌, List, ℕ, ap, filter, map, subst, sym}
use Rattle.std.specs.List.{enumerate_from}
use Rattle.ice_manifest_reading.specs.declared.entry.Entry.{Entry}
use Rattle.ice_state.specs.declared.kept.segments.FileNumber.{FileNumber}
use Rattle.ice_state.specs.Applying.{data_key_of, delete_key_of}
use Rattle.ice_state.specs.Orders.{IsOrder}
use Rattle.ice_state.specs.Outcomes.{by_path}
use Rattle.ice_state.specs.Parts.{holds_deletes, places_of}
use Rattle.ice_state.specs.PlaceLists.{LinePlaces}
use Rattle.ice_state.specs.Segments.{AreKept, entries_at}
use Rattle.ice_state.specs.Shares.{count_at}
use Rattle.ice_state.proofs.FoundPlaces.{few_deletes}
use Rattle.ice_state.proofs.Hits.{lines_are, lines_fit}
use Rattle.ice_state.proofs.LinesAt.{planned_is}
use Rattle.ice_state.proofs.PathsOnce.{deletes_in_order}
use Rattle.ice_state.proofs.finish.planned_by.Goals as goal
use Rattle.ice_state.proofs.finish.planned_by.Goals.{After-deref, In_ok-order, In_ok-places}

-- the index's files by path are the delete files
in_order : (c : After-deref) → by_path (entries_at c.args.entries.now c.args.deletes.now.files.items)
    ≡ filter holds_deletes c.requires.0
in_order c = deletes_in_order c.requires.0 c.requires.1.sorted c.requires.1.once
    (entries_at c.args.entries.now c.args.deletes.now.files.items) c.requires.2.all

by_path_are : (c : After-deref) → entries_at c.args.entries.now c.args.files.delete_files.items
    ≡ by_path (entries_at c.args.entries.now c.args.deletes.now.files.items)
by_path_are c = c.requires.1.has.all_deletes ∙ sym (in_order c)

pub order_among-requires : goal.order_among-requires
order_among-requires c =
    let kept = c.args.entries.now in
    let files = c.args.deletes.now.files.items in
    let at = (goal.at.order_among-requires c).After-deref in
    let few = few_deletes c.requires.0 (entries_at kept files) c.requires.1.sorted c.requires.1.once (in_order at) in
    record {
      files = subst (AreKept kept) (sym c.deref.ensures.value) c.requires.2.files;
      sorted =
          ap (entries_at kept) c.deref-2.ensures.value ∙ by_path_are at
          ∙ ap (λ (ns : List FileNumber). by_path (entries_at kept ns)) (sym c.deref.ensures.value);
      once = subst (λ (ns : List FileNumber). (path : List ℕ) → count_at (entries_at kept ns) path ≤ 1)
          (sym c.deref.ensures.value) few;
    }

ordered : (c : In_ok-order) → IsOrder (entries_at c.args.entries.now c.args.deletes.now.files.items) c.in_ok-order.order
ordered c = subst (λ (ns : List FileNumber). IsOrder (entries_at c.args.entries.now ns) c.in_ok-order.order)
    c.deref.ensures.value c.in_ok-order.ensures

pub lines-requires : goal.lines-requires
lines-requires c =
    let kept = c.args.entries.now in
    record {
      files = c.requires.1.has.numbers.0;
      index = (c.requires.0, c.requires.2);
      order = subst (IsOrder (entries_at kept c.args.deletes.now.files.items)) (sym c.as_slice.ensures)
          (ordered (goal.at.lines-requires c).In_ok-order);
    }

abbrev places_by : List Entry → List Entry → List LinePlaces
places_by deletes files = map (λ x. places_of (enumerate_from 0 (map delete_key_of deletes)) (data_key_of x)) files

places_are : (c : In_ok-places) → c.in_ok-places.places
    ≡ places_by (entries_at c.args.entries.now c.args.files.delete_files.items)
    (entries_at c.args.entries.now c.args.files.data_files.items)
places_are c =
    let kept = c.args.entries.now in
    let files = entries_at kept c.args.files.data_files.items in
    c.in_ok-places.ensures
    ∙ ap (λ (es : List Entry). places_by es files) (sym (by_path_are (goal.at-In_ok-places c).After-deref))

pub returns-clause-planned : goal.returns-clause-planned
returns-clause-planned c =
    let kept = c.args.entries.now in
    record {
      files = c.requires.1.has.numbers.0;
      deletes = c.requires.1.has.numbers.1;
      lines = lines_fit (entries_at kept c.args.files.delete_files.items)
          (entries_at kept c.args.files.data_files.items)
          c.in_ok-places.places (places_are (goal.at.returns-clause-planned c).In_ok-places);
    }

pub returns-clause-lines : goal.returns-clause-lines
returns-clause-lines c = λ xs has.
    let kept = c.args.entries.now in
    let files = entries_at kept c.args.files.data_files.items in
    let deletes = entries_at kept c.args.files.delete_files.items in
    let at = goal.at.returns-clause-lines c in
    planned_is xs files deletes c.in_ok-places.places has.all has.all_deletes
    (lines_are deletes files c.in_ok-places.places (places_are at.In_ok-places))
