use Rattle.ice_filter.proofs.Unique.{one_filter}
use Rattle.ice_filter.proofs.readings.tokens_say_one_filter.Goals as goal

pub returns : goal.returns
returns c = one_filter
