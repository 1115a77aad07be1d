use Rattle.std.proofs.lemmas.Result.{IfOk-weaker}
use Rattle.ice_catalog_versions.proofs.tuples.type_of_values.Goals as goal

pub returns-in-Some : goal.returns-in-Some
returns-in-Some c = IfOk-weaker c.type_over.result _ _ (λ f h. rw c.in-Some.is (rw c.as_str.ensures at h))
    c.type_over.ensures
