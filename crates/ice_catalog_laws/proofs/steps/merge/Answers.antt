use Rattle.ice_catalog_laws.proofs.Stepped.{merge_call, on_ok}
use Rattle.ice_catalog_laws.proofs.steps.merge.Goals as goal

pub returns : goal.returns
returns c = λ m k into from p has also.
    on_ok c.merge.result _ _ (merge_call m k into from p _ _ _ has also) c.merge.ensures.ok
