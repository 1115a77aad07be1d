use Rattle.std.proofs.Common.{◌≡◌, map, drop}
use Rattle.ice_state_envelopes.specs.Envelopes.{shown, rises}
use Rattle.ice_state_envelopes.proofs.opening.are_rising.Given as goal

-- the test of those that are left is the test of all
abbrev pub invariant-sections : goal.invariant-sections
invariant-sections l = rises l.least l.end (map shown (drop l.section-index l.sections)) ≡
    rises 0 l.end (map shown l.sections)
