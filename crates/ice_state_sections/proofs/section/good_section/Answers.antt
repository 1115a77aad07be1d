use Rattle.std.proofs.Common.{map}
use Rattle.ice_manifest_reading.specs.Lending.{lent}
use Rattle.ice_state_sections.proofs.SectionsAdded.{good_is}
use Rattle.ice_state_sections.proofs.section.good_section.Goals as goal

pub returns-clause-ok : goal.returns-clause-ok
returns-clause-ok c = good_is c.args.row.now c.args.spec.now (map lent c.args.entries.now) _ _
    (rw c.new.ensures.items at c.in_ok-bytes.ensures)
    c.in_ok-add_entries.ensures.ok
