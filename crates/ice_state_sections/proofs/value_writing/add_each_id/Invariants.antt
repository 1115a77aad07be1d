use Rattle.std.proofs.Common.{take}
use Rattle.ice_state_sections.specs.Parts.{int}
use Rattle.ice_state_sections.proofs.Added.{Goes}
use Rattle.ice_state_sections.proofs.value_writing.add_each_id.Given as goal

abbrev pub invariant-ids : goal.invariant-ids
invariant-ids l = Goes (λ _. int) (take l.id-index l.ids) l.initial.bytes.items l.bytes.items
