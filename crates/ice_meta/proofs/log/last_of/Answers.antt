use Rattle.ice_meta.proofs.Newest.{last_is}
use Rattle.ice_meta.proofs.log.last_of.Goals as goal

pub returns : goal.returns
returns c = last_is c.last.result c.args.items.now c.last.ensures.value
