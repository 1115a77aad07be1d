use Rattle.ice_catalog.specs.Machines.{world_of}
use Rattle.ice_catalog_laws.proofs.Stepped.{if_ok}
use Rattle.ice_catalog_laws.proofs.Turns.{comes_from_nothing}
use Rattle.ice_catalog_laws.proofs.steps.take_by_workers.Goals as goal

pub returns : goal.returns
returns g c = λ m k w p tells same has.
    if_ok c.take_by_workers.result _ _ (λ r some. comes_from_nothing m k w p _ r.0 same has some)
    (c.take_by_workers.ensures.content (world_of p.history) tells)
