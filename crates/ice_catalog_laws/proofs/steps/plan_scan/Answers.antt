use Rattle.ice_catalog_laws.proofs.Stepped.{plan_call}
use Rattle.ice_catalog_laws.proofs.steps.plan_scan.Goals as goal
use Rattle.ice_catalog.specs.Machines.{world_of}

pub returns : goal.returns
returns g c = λ m k w p tells same has.
    plan_call m k w p _ c.plan_scan.result same has (c.plan_scan.ensures.outcome (world_of p.history) tells)
