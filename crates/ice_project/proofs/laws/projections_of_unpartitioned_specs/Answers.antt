use Rattle.ice_project.proofs.Unpartitioned.{all_predicates_met, met_wherever_another_is}
use Rattle.ice_project.proofs.laws.projections_of_unpartitioned_specs.Goals as goal

pub returns-clause-predicates : goal.returns-clause-predicates
returns-clause-predicates c = all_predicates_met c.filters_over_other_predicates.ensures.meaning

pub returns-clause-open : goal.returns-clause-open
returns-clause-open c = met_wherever_another_is c.filters_over_other_predicates.ensures.meaning
