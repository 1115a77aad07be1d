use Rattle.std.proofs.Common.{◌≡◌, ◌∙◌, ◌-◌, suc, ap, sym, take, arith}
use Rattle.ice_state.specs.PlaceLists.{end_of}
use Rattle.ice_state.proofs.PlaceTables.{end_of-more}
use Rattle.ice_state.proofs.plan.places.start_of.Goals as goal

pub returns-else-i-eq0 : goal.returns-else-i-eq0
returns-else-i-eq0 c =
    let before = c.args.i - 1 in
    let next : suc before ≡ c.args.i = omega arith in
    sym (end_of-more 0 c.args.ends.now before _ (omega arith)) ∙ ap (λ k. end_of 0 (take k c.args.ends.now)) next
