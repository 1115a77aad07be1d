use Rattle.ice_state_sections.proofs.ValuesAdded.{content_added}
use Rattle.ice_state_sections.proofs.value_writing.add_content.Goals as goal

pub returns : goal.returns
returns c = content_added c.content_code-code.result c.args.holds _ _ c.content_code-code.ensures
    c.in_ok-add_number.ensures
