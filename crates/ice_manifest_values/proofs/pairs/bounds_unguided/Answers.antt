use Rattle.std.proofs.Common.{◌≡◌, [], refl}
use Rattle.ice_manifest_fields.specs.Each.{each}
use Rattle.ice_manifest_values.proofs.pairs.bounds_unguided.Goals as goal

pub returns-in_ok-guide-in-Some : goal.returns-in_ok-guide-in-Some
returns-in_ok-guide-in-Some c = λ vs ahead. c.each_bound.ensures vs c.in_ok-guide-in-Some.ensures ahead

pub returns-in-None : goal.returns-in-None
unfolding each
returns-in-None c = λ vs ahead.
    let none : vs ≡ [] = c.in-None.ensures.items vs ahead in
    rw (c.new.ensures.items, none) refl
