use Rattle.std.proofs.Common.{ℕ, subst}
use Rattle.ice_state_sections.specs.Entries.{sequence}
use Rattle.ice_state_sections.specs.Written.{Adds}
use Rattle.ice_state_sections.proofs.EntriesAdded.{sequence_added}
use Rattle.ice_state_sections.proofs.entry_writing.add_sequence.Goals as goal

pub returns : goal.returns
returns c = subst (λ (n : ℕ). Adds sequence n c.args.bytes.items c.in_ok-add_number.field-0.items)
    c.get-number.ensures.same
    (sequence_added c.get-number.result _ _ c.get-number.ensures.fits_long c.in_ok-add_number.ensures)
