use Rattle.std.proofs.Common.{◌≡◌, ◌-◌, []}
use Rattle.ice_state_sections.specs.Parts.{behind}
use Rattle.ice_state_sections.specs.Entries.{entry}
use Rattle.ice_state_sections.proofs.entries.entries_of_count.Given as goal

abbrev pub invariant-entries : goal.invariant-entries
invariant-entries l = behind (entry l.row l.spec) (l.count - l.counter) l.entries.items l.rest
    ≡ behind (entry l.row l.spec) l.count [] l.bytes
