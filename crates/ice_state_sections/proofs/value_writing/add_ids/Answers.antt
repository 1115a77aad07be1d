use Rattle.ice_state_sections.proofs.ValuesAdded.{ids_added}
use Rattle.ice_state_sections.proofs.value_writing.add_ids.Goals as goal

pub returns : goal.returns
returns c = ids_added c.args.ids.now _ _ _ c.in_ok-bytes.ensures c.in_ok-add_each_id.ensures
