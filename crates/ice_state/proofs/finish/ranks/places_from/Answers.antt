use Rattle.std.proofs.Common.{◌≡◌, ◌∙◌, ◌+◌, ◌++◌, ◌∷◌, [], List, ℕ, ap, sym, arith, add-one}
use Rattle.std.specs.List.{range_with_len}
use Rattle.std.proofs.lemmas.Grind.{common_steps}
use Rattle.ice_state.proofs.Permuted.{range_more}
use Rattle.ice_state.proofs.finish.ranks.places_from.Goals as goal

pub places-preserved : goal.places-preserved
places-preserved c =
    let first = c.args.first in
    let i = c.places.i in
    let at : c.in-Ok.place ≡ first + i = grind (arith, common_steps) in
    c.in_ok-push.ensures.items ∙ ap (λ (xs : List ℕ). xs ++ c.in-Ok.place ∷ []) c.places.invariant
    ∙ ap (λ p. range_with_len first i ++ p ∷ []) at ∙ sym (range_more first i)
    ∙ ap (range_with_len first) (sym (add-one i))
