use Rattle.ice_state_envelopes.proofs.Numbers.{Completes}
use Rattle.ice_state_envelopes.proofs.written.push_number.Given as goal

-- what is still to be put completes the number
abbrev pub invariant-groups : goal.invariant-groups
invariant-groups l = Completes l.number l.rest l.initial.bytes.items l.bytes.items

abbrev pub decreases-groups : goal.decreases-groups
decreases-groups l = l.rest
