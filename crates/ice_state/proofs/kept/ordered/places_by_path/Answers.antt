use Rattle.std.proofs.Common.{◌∙◌, ap, sym}
use Rattle.std.specs.List.{range_with_len}
use Rattle.std.proofs.lemmas.List.{length-map}
use Rattle.ice_state.specs.Segments.{entry_at, entries_at}
use Rattle.ice_state.proofs.kept.ordered.places_by_path.Goals as goal

pub returns-clause-order : goal.returns-clause-order
returns-clause-order g c =
    let kept = c.args.entries.now in
    let numbers = c.args.files.now in
    let found = c.in_ok-placed.ensures in
    c.sorted_places.ensures.order (entries_at kept numbers) (record {
      placed = found.placed;
      places = found.places ∙ ap (range_with_len 0) (sym (length-map numbers (entry_at kept)));
      all = found.all;
    })

pub returns-clause-once : goal.returns-clause-once
returns-clause-once g c =
    let kept = c.args.entries.now in
    let numbers = c.args.files.now in
    let found = c.in_ok-placed.ensures in
    c.sorted_places.ensures.once (entries_at kept numbers) (record {
      placed = found.placed;
      places = found.places ∙ ap (range_with_len 0) (sym (length-map numbers (entry_at kept)));
      all = found.all;
    })
