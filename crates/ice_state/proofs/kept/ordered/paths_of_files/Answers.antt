use Rattle.std.proofs.Common.{◌≡◌, arith}
use Rattle.std.proofs.lemmas.Grind.{common_steps}
use Rattle.ice_state.specs.Placed.{place_of}
use Rattle.ice_state.proofs.Permuted.{one_more}
use Rattle.ice_state.proofs.kept.ordered.paths_of_files.Goals as goal

pub files-preserved : goal.files-preserved
files-preserved c = record {
  placed = grind (arith, common_steps);
  places =
      let at : c.in-Ok.place ≡ c.files.i = grind (arith, common_steps) in
      one_more place_of c.files.placed.items c.push.new.self.items _ c.files.i c.in_ok-push.ensures.items at
      c.files.invariant.places;
  all = grind (arith, common_steps);
}
