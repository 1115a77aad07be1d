use Rattle.std.proofs.Common.{true, false}
use Rattle.ice_state_sections.proofs.Added.{a_truth}
use Rattle.ice_state_sections.proofs.adding.add_truth.Goals as goal

pub returns-in_ok-add_number : goal.returns-in_ok-add_number
returns-in_ok-add_number c = rw c.if-value.true (a_truth true _ _ c.in_ok-add_number.ensures)

pub returns-in_ok-add_number-2 : goal.returns-in_ok-add_number-2
returns-in_ok-add_number-2 c = rw c.if-value.false (a_truth false _ _ c.in_ok-add_number-2.ensures)
