use Rattle.ice_state.specs.Contents.{IsOf}
use Rattle.ice_state_tests.proofs.cases.state_after.Given as goal

abbrev pub invariant-order : goal.invariant-order
invariant-order l = IsOf l.case.scan l.state
