use Rattle.std.proofs.Common.{◌≡◌, ◌∙◌, [], List, IfOk, ap, arith, length, map, replicate, subst, sym}
use Rattle.std.specs.List.{enumerate_from}
use Rattle.std.proofs.lemmas.Grind.{common_steps}
use Rattle.std.proofs.lemmas.List.{length-map}
use Rattle.ice_deletes.specs.Unions.{renumbered}
use Rattle.ice_state.specs.Applying.{data_key_of, delete_key_of}
use Rattle.ice_state.specs.declared.kept.segments.FileNumber.{FileNumber}
use Rattle.ice_state.specs.Outcomes.{by_path}
use Rattle.ice_state.specs.Parts.{places_of}
use Rattle.ice_state.specs.PlaceLists.{AreRanks, LinePlaces, no_places}
use Rattle.ice_state.specs.Segments.{entry_at, entries_at}
use Rattle.ice_state.proofs.Lent.{all_by_place}
use Rattle.ice_state.proofs.RankedLines.{below_ranks, index_in_order, none_apply, places_below, places_once}
use Rattle.ice_state.proofs.finish.lines.Goals as goal

pub returns-then-is_empty : goal.returns-then-is_empty
returns-then-is_empty c =
    let kept = c.args.entries.now in
    let files = entries_at kept c.args.files.now.data_files.items in
    let none : c.args.deletes.now.files.items ≡ [] = grind (arith, common_steps) in
    let places : List FileNumber → List LinePlaces = λ ns. map (λ x. places_of (enumerate_from 0
    (map delete_key_of (by_path (entries_at kept ns)))) (data_key_of x)) files in
    let many : length c.args.files.now.data_files.items ≡ length files = sym
    (length-map c.args.files.now.data_files.items (entry_at kept)) in
    let counted : c.len.result ≡ length c.args.files.now.data_files.items = first_of (
      omega (arith, c.len.ensures),
      grind (arith, common_steps),
    ) in
    let are : replicate c.len.result no_places ≡ places c.args.deletes.now.files.items =
    ap (λ n. replicate n no_places) (counted ∙ many) ∙ sym (none_apply files) ∙ ap places (sym none) in
    subst (λ (ps : List LinePlaces). IfOk c.without_places.result (λ table. table ≡ ps)) are c.without_places.ensures

pub ranks-requires : goal.ranks-requires
ranks-requires c =
    let index = c.requires.index in
    record {
      below = places_below c.args.entries.now c.args.deletes.now index.0 index.1 c.args.order.now c.requires.order;
      once = places_once c.args.entries.now c.args.deletes.now index.0 index.1 c.args.order.now c.requires.order;
    }

pub looked_up-requires : goal.looked_up-requires
looked_up-requires c =
    let index = c.requires.index in
    let ranked = subst (AreRanks c.args.order.now) (sym c.deref.ensures.value) c.in_ok-ranks.ensures in
    record {
      files = c.requires.files;
      ranks = below_ranks c.args.entries.now c.args.deletes.now index.0 index.1 c.args.order.now c.requires.order
          c.deref.result.now ranked;
    }

pub returns : goal.returns
returns c =
    let kept = c.args.entries.now in
    let deletes = c.args.deletes.now in
    let index = c.requires.index in
    let ranked = subst (AreRanks c.args.order.now) (sym c.deref.ensures.value) c.in_ok-ranks.ensures in
    let files = map delete_key_of (by_path (entries_at kept deletes.files.items)) in
    let same = index_in_order kept deletes index.0 index.1 c.args.order.now c.requires.order c.deref.result.now ranked
    in
    let Q : List LinePlaces → Type 0 = λ ps. IfOk c.looked_up.result (λ places. places ≡ ps) in
    subst Q (all_by_place files (renumbered c.deref.result.now deletes.index) same
    (entries_at kept c.args.files.now.data_files.items))
    c.looked_up.ensures
