use Rattle.std.proofs.Common.{◌∙◌, ap, sym}
use Rattle.ice_catalog_versions.specs.Histories.{state_of}
use Rattle.ice_catalog_laws.proofs.Stepped.{swap_call}
use Rattle.ice_catalog_laws.proofs.steps.swap_in.Goals as goal

pub returns : goal.returns
returns c = λ m own goes.
    let swapped = c.swap_in.ensures in
    swap_call m _ _ _ _ own c.swap_in.result _ c.a_commit_is_one_step.ensures.step
    (ap state_of (sym c.version.ensures) ∙ c.state-after.ensures) goes swapped.base swapped.appended swapped.receipt
    swapped.conflict swapped.unchanged
