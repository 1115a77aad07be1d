use Rattle.ice_filter_relaxed.proofs.Read.{read_back}
use Rattle.ice_filter_relaxed.proofs.Weaker.{may_where_it_is_met, met_where_it_may}
use Rattle.ice_filter_relaxed.proofs.laws.relaxed_filters_lose_no_row.Goals as goal

pub returns-clause-met : goal.returns-clause-met
returns-clause-met c = λ schema parts row. (may_where_it_is_met schema parts row, met_where_it_may schema parts row)

pub returns-clause-read : goal.returns-clause-read
returns-clause-read c = read_back
