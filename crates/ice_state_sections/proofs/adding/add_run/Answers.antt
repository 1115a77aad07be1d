use Rattle.ice_state_sections.proofs.Added.{a_run}
use Rattle.ice_state_sections.proofs.adding.add_run.Goals as goal

pub returns : goal.returns
returns c = a_run _ _ _ c.in_ok-push_run.ensures
