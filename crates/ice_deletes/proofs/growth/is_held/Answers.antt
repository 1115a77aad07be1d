use Rattle.std.proofs.Common.{◌∙◌}
use Rattle.ice_deletes.proofs.Held.{held_is}
use Rattle.ice_deletes.proofs.growth.is_held.Goals as goal

pub returns : goal.returns
returns c = c.is_ok.ensures.value ∙ held_is c.args.held.now c.args.number c.binary_search.result
    c.binary_search.ensures.position c.requires
