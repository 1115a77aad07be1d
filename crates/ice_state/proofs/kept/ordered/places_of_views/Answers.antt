use Rattle.ice_state.specs.Placed.{AreEachPlaced}
use Rattle.ice_state.proofs.kept.ordered.places_of_views.Goals as goal

pub returns : goal.returns
returns c =
    let entries = c.args.views.now in
    let found = c.in_ok-placed.ensures in
    let are : AreEachPlaced entries c.in_ok-placed.placed.items = record {
      placed = found.placed;
      places = found.places;
      all = found.all;
    } in
    record {
      order = c.sorted_places.ensures.order entries are;
      once = c.sorted_places.ensures.once entries are;
    }
