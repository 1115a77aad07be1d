use Rattle.ice_catalog_laws.proofs.Stepped.{on_ok, take_call}
use Rattle.ice_catalog_laws.proofs.steps.take.Goals as goal

pub returns : goal.returns
returns c = λ m k w p same has there.
    on_ok c.take.result _ _ (take_call m k w c.args.i p _ _ _ _ same has there) c.take.ensures.ok
