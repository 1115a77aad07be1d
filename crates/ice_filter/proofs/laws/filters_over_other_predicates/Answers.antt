use Rattle.ice_filter.proofs.Mapped.{mapped_filter, mapped_meaning}
use Rattle.ice_filter.proofs.laws.filters_over_other_predicates.Goals as goal

pub returns-clause-filter : goal.returns-clause-filter
returns-clause-filter g c = λ f parts. mapped_filter f parts

pub returns-clause-meaning : goal.returns-clause-meaning
returns-clause-meaning g c = λ f met parts. mapped_meaning f met parts
