use Rattle.icescan_changes_laws.proofs.Told.{told}
use Rattle.icescan_shared_manifests.proofs.Rising.{rising}
use Rattle.icescan_changes_laws.proofs.changes_are_of_whole_plans.Goals as goal

pub returns : goal.returns
returns c = λ form world metadata request earlier later follows was is.
    told c.unfiltered.ensures.rows c.finished_plans.ensures.taken c.unfiltered.ensures.plans
    c.shared_manifests_change_nothing.ensures rising world form metadata request earlier later follows was is
