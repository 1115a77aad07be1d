use Rattle.ice_state_sections.proofs.SectionsAdded.{bad_is}
use Rattle.ice_state_sections.proofs.section.bad_section.Goals as goal

pub returns : goal.returns
returns c = λ row spec. bad_is row spec c.args.fault.now _ _
    (rw c.new.ensures.items at c.in_ok-bytes.ensures) c.in_ok-add_fault.ensures
