use Rattle.std.proofs.Common.{◌∙◌, ap, sym}
use Rattle.std.specs.List.{range_with_len}
use Rattle.std.proofs.lemmas.List.{length-map}
use Rattle.ice_state_entries.specs.Kept.{entry_at, entries_at}
use Rattle.ice_state.specs.Placed.{AreEachPlaced}
use Rattle.ice_state.proofs.kept.ordered.places_in_order.Goals as goal

pub returns : goal.returns
returns c =
    let kept = c.args.entries.now in
    let numbers = c.args.numbers.now in
    let found = c.in_ok-placed.ensures in
    let are : AreEachPlaced (entries_at kept numbers) c.in_ok-placed.placed.items = record {
      placed = found.placed;
      places = found.places ∙ ap (range_with_len 0) (sym (length-map numbers (entry_at kept)));
      all = found.all;
    } in
    record {
      order = c.sorted_places.ensures.order (entries_at kept numbers) are;
      once = c.sorted_places.ensures.once (entries_at kept numbers) are;
    }
