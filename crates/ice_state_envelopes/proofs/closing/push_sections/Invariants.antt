use Rattle.ice_state_envelopes.proofs.Put.{Completes}
use Rattle.ice_state_envelopes.proofs.closing.push_sections.Given as goal

-- those that are left complete the sections
abbrev pub invariant-sections : goal.invariant-sections
invariant-sections l = Completes l.sections l.section-index l.fn.bytes.items l.bytes.items
