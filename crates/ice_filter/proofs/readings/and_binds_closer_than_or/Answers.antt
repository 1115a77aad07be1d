use Rattle.ice_filter.proofs.Unique.{and_is_closer}
use Rattle.ice_filter.proofs.readings.and_binds_closer_than_or.Goals as goal

pub returns : goal.returns
returns c = and_is_closer
