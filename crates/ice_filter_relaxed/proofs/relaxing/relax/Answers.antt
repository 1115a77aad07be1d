use Rattle.ice_filter_relaxed.proofs.Alone.{whole_filter}
use Rattle.ice_filter_relaxed.proofs.relaxing.relax.Goals as goal

pub from_items-requires : goal.from_items-requires
from_items-requires c = whole_filter c.args.schema.now c.parts.part-index c.as_slice-of_filter.result.now c.parts.parts
    c.parts.invariant.kept c.parts-test.false
    (rw c.as_slice-of_filter.ensures.parts c.as_slice-of_filter.ensures.filter)
