use Rattle.ice_state_sections.proofs.OfRow.{read_of_row, read_short}
use Rattle.ice_state_sections.proofs.section.section_of.Goals as goal

pub returns-clause-of_row : goal.returns-clause-of_row
returns-clause-of_row c = read_of_row c.args.row.now c.args.spec.now c.args.bytes.now c.section_in.result
    c.section_in.ensures

pub returns-clause-short : goal.returns-clause-short
returns-clause-short c = read_short c.args.row.now c.args.spec.now c.section_in.result
    (read_of_row c.args.row.now c.args.spec.now c.args.bytes.now c.section_in.result c.section_in.ensures)
