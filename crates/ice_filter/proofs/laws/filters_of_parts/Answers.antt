use Rattle.ice_filter.proofs.Mapped.{parts_read}
use Rattle.ice_filter.proofs.laws.filters_of_parts.Goals as goal

pub returns : goal.returns
returns g c = λ t. parts_read t
