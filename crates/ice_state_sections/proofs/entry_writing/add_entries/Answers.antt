use Rattle.std.proofs.Common.{map, length}
use Rattle.ice_manifest_reading.specs.Lending.{lent}
use Rattle.ice_state_sections.proofs.EntriesAdded.{entries_added}
use Rattle.ice_state_sections.proofs.entry_writing.add_entries.Goals as goal

pub returns-clause-ok : goal.returns-clause-ok
returns-clause-ok c = entries_added c.args.row.now c.args.spec.now (map lent c.args.entries.now)
    (length c.args.entries.now) _ _ _
    c.in_ok-bytes.ensures c.in_ok-add_each.ensures.ok
