use Rattle.std.proofs.Common.{◌∙◌, List, ℕ, ap, replicate, subst, sym}
use Rattle.ice_state.specs.PlaceLists.{LinePlaces}
use Rattle.ice_state.specs.SharedPlaces.{AreIn, lines_in}
use Rattle.ice_state.proofs.SharedLines.{none_are, none_in}
use Rattle.ice_state.proofs.plan.shared_places.SharedPlaces.without_places.Goals as goal

pub invariant_of-result : goal.invariant_of-result
invariant_of-result c =
    let lines : List ℕ = replicate c.args.lines 0 in
    let lists : AreIn c.in_ok-without_places.field-0 lines = subst (λ (ls : List LinePlaces). AreIn ls lines)
    (sym c.in_ok-without_places.ensures) (none_in c.args.lines) in
    subst (λ (ns : List ℕ). AreIn c.in_ok-without_places.field-0 ns)
    (sym (c.in_ok-vec.ensures.items_if_clones_equal (λ y h. h))) lists

pub returns : goal.returns
returns c =
    ap (lines_in c.in_ok-without_places.field-0) (c.in_ok-vec.ensures.items_if_clones_equal (λ y h. h))
    ∙ ap (λ (ls : List LinePlaces). lines_in ls (replicate c.args.lines 0)) c.in_ok-without_places.ensures
    ∙ none_are c.args.lines
