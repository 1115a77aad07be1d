use Rattle.ice_state_sections.specs.Entries.{sequence}
use Rattle.ice_state_sections.proofs.Added.{none_added, some_added}
use Rattle.ice_state_sections.proofs.entry_writing.add_added.Goals as goal

pub returns-in_ok-add_truth-in-None : goal.returns-in_ok-add_truth-in-None
returns-in_ok-add_truth-in-None c = rw c.in-None.is (none_added sequence _ _ c.in_ok-add_truth-in-None.ensures)

pub returns-in_ok-add_sequence-in-Some : goal.returns-in_ok-add_sequence-in-Some
returns-in_ok-add_sequence-in-Some c = rw c.in-Some.is (some_added sequence c.in-Some.number _ _ _
    c.in_ok-bytes-in-Some.ensures c.in_ok-add_sequence-in-Some.ensures)
