use Rattle.ice_state.specs.Contents.{IsOf}
use Rattle.ice_state_tests.proofs.states.state_by.Given as goal

abbrev pub invariant-steps : goal.invariant-steps
invariant-steps l = IsOf l.case.scan l.state
