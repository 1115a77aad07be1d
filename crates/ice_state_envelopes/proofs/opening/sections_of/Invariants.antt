use Rattle.std.proofs.Common.{◌≡◌, ◌-◌, map}
use Rattle.ice_state_envelopes.specs.Envelopes.{shown, sections_at, whole}
use Rattle.ice_state_envelopes.proofs.Loop.{with_front}
use Rattle.ice_state_envelopes.proofs.opening.sections_of.Given as goal

-- what was read, and what is still read
abbrev pub invariant-sections : goal.invariant-sections
invariant-sections l = with_front (map shown l.sections.items) (whole (sections_at (l.count - l.counter) l.rest)) ≡
    whole (sections_at l.count l.bytes)
