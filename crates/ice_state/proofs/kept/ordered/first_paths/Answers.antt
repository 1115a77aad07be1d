use Rattle.std.proofs.Common.{◌≡◌, arith}
use Rattle.std.proofs.lemmas.Grind.{common_steps}
use Rattle.ice_state.specs.Placed.{place_of}
use Rattle.ice_state.proofs.Permuted.{one_more}
use Rattle.ice_state.proofs.kept.ordered.first_paths.Goals as goal

pub slots-preserved : goal.slots-preserved
slots-preserved c =
    let at : c.in-Ok.place ≡ c.slots.i = grind (arith, common_steps) in
    one_more place_of c.slots.placed.items c.push.new.self.items _ c.slots.i c.in_ok-push.ensures.items at
    c.slots.invariant
