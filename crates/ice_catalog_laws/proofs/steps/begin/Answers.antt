use Rattle.ice_catalog_laws.proofs.Stepped.{begun_state, if_ok}
use Rattle.ice_catalog_laws.proofs.steps.begin.Goals as goal

pub returns : goal.returns
returns c = λ m filter w is near.
    if_ok c.empty.result _ _ (λ state none. begun_state m filter c.args.scan.now w state is near none)
    c.empty.ensures.none
