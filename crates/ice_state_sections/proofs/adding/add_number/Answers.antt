use Rattle.ice_state_sections.proofs.Added.{a_number}
use Rattle.ice_state_sections.proofs.adding.add_number.Goals as goal

pub returns : goal.returns
returns c = a_number _ _ _ c.in_ok-push_number.ensures
