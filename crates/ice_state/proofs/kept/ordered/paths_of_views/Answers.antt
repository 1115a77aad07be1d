use Rattle.std.proofs.Common.{◌≡◌, arith}
use Rattle.std.proofs.lemmas.Grind.{common_steps}
use Rattle.ice_state.specs.Placed.{place_of}
use Rattle.ice_state.proofs.Permuted.{one_more}
use Rattle.ice_state.proofs.kept.ordered.paths_of_views.Goals as goal

pub views-preserved : goal.views-preserved
views-preserved c = record {
  placed = grind (arith, common_steps);
  places =
      let at : c.in-Ok.place ≡ c.views.i = grind (arith, common_steps) in
      one_more place_of c.views.placed.items c.push.new.self.items _ c.views.i c.in_ok-push.ensures.items at
      c.views.invariant.places;
  all = grind (arith, common_steps);
}
