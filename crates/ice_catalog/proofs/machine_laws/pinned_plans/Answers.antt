use Rattle.ice_catalog.proofs.Whole.{whole}
use Rattle.ice_catalog.proofs.machine_laws.pinned_plans.Goals as goal

pub returns : goal.returns
returns c = whole c.filtering.ensures.open_where_unpartitioned c.filtering.ensures.sound
