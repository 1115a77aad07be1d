use Rattle.ice_catalog_versions.proofs.LeastFaults.{prepares_where_none_is_there, tells_the_least}
use Rattle.ice_catalog_versions.proofs.laws.the_least_fault_is_told.Goals as goal

pub returns : goal.returns
returns c = record { told = tells_the_least; prepared = prepares_where_none_is_there }
