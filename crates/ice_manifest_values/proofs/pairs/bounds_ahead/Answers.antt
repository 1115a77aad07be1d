use Rattle.ice_manifest_values.proofs.pairs.bounds_ahead.Goals as goal

pub returns-in-Some : goal.returns-in-Some
returns-in-Some c = λ vs fits ahead. c.each_bound.ensures vs (rw c.in-Some.is at fits) ahead

pub returns-in-None : goal.returns-in-None
returns-in-None c = λ vs fits ahead. c.bounds_unguided.ensures vs ahead
