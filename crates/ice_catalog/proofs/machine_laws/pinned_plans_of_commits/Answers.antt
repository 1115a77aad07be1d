use Rattle.ice_catalog_versions.proofs.Covered.{stays_covered}
use Rattle.ice_catalog.proofs.Truths.{tells_the_truth}
use Rattle.ice_catalog.proofs.machine_laws.pinned_plans_of_commits.Goals as goal

pub returns : goal.returns
returns c = λ m state filter schema rows parts events w grown began leaves reads took.
    c.pinned_plans.ensures m state filter schema rows parts events w leaves reads (tells_the_truth state filter schema
    rows parts reads (stays_covered m.history state grown began leaves)) took
