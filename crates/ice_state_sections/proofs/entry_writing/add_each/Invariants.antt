use Rattle.std.proofs.Common.{take, map}
use Rattle.ice_manifest_reading.specs.Lending.{lent}
use Rattle.ice_state_sections.specs.Entries.{entry}
use Rattle.ice_state_sections.proofs.Added.{Goes}
use Rattle.ice_state_sections.proofs.entry_writing.add_each.Given as goal

abbrev pub invariant-entries : goal.invariant-entries
invariant-entries l = Goes (entry l.row l.spec) (take l.index (map lent l.entries)) l.initial.bytes.items l.bytes.items
