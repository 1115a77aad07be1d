use Rattle.ice_filter.proofs.Answering.{bound_means, bound_filter}
use Rattle.ice_filter.proofs.binding.bind.Goals as goal

pub from_items-requires : goal.from_items-requires
from_items-requires c = bound_filter c.args.schema.now c.as_slice.result.now c.in_ok-parts.parts c.in_ok-parts.ensures
    (rw c.as_slice.ensures.parts c.as_slice.ensures.filter)

pub returns-clause-meaning : goal.returns-clause-meaning
returns-clause-meaning c =
    rw c.from_items.ensures (bound_means c.args.schema.now c.args.filter.now c.in_ok-parts.parts
    (rw (c.as_slice.ensures.parts, c.parts.ensures) at c.in_ok-parts.ensures))
