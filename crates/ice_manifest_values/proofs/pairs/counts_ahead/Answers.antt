use Rattle.ice_manifest_values.proofs.pairs.counts_ahead.Goals as goal

pub returns-in-Some : goal.returns-in-Some
returns-in-Some c = λ vs fits ahead. c.each_count.ensures vs (rw c.in-Some.is at fits) ahead

pub returns-in-None : goal.returns-in-None
returns-in-None c = λ vs fits ahead. c.counts_unguided.ensures vs ahead
