use Rattle.std.proofs.Common.{◌≡◌, ◌-◌, []}
use Rattle.ice_state_sections.specs.Parts.{behind, int}
use Rattle.ice_state_sections.proofs.values.ids_of_count.Given as goal

abbrev pub invariant-ids : goal.invariant-ids
invariant-ids l = behind (λ _. int) (l.count - l.counter) l.ids l.rest ≡ behind (λ _. int) l.count [] l.bytes
