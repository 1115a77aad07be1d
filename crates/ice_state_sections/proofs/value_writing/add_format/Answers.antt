use Rattle.ice_state_sections.proofs.ValuesAdded.{format_added}
use Rattle.ice_state_sections.proofs.value_writing.add_format.Goals as goal

pub returns : goal.returns
returns c = format_added c.format_code-code.result c.args.named _ _ c.format_code-code.ensures
    c.in_ok-add_number.ensures
