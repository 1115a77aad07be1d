use Rattle.std.proofs.Common.{◌∙◌, [], sym}
use Rattle.icescan_answer_laws.proofs.Worlds.{file_planned, rows_listed, rows_planned, table_planned}
use Rattle.icescan_requests.proofs.Listed.{listed_there, same_listed}
use Rattle.icescan_requests.specs.ListPlans.{specs_of}
use Rattle.icescan_answer_laws.proofs.given.plans_of_a_world.Goals as goal

pub returns-clause-tables : goal.returns-clause-tables
returns-clause-tables g c = λ world metadata request plan are h.
    table_planned (g.F.Files.gives c.args.files.now) world are metadata request plan h

pub returns-clause-files : goal.returns-clause-files
returns-clause-files g c = λ world path request workers plan are h.
    file_planned (g.F.Files.gives c.args.files.now) world are path request workers plan h

pub returns-clause-lists : goal.returns-clause-lists
returns-clause-lists g c = λ world list plan are h.
    let same = same_listed c.filtering.ensures.open_where_unpartitioned c.filtering.ensures.sound
    c.covering_without_fields.ensures c.unfiltered.ensures.plans world h.rows in
    listed_there (λ _. ⊥) world list h.rows (rows_listed (g.F.Files.gives c.args.files.now) world are list h.rows
    h.listed) ∙ sym same ∙ rows_planned (g.F.Files.gives c.args.files.now) world are (specs_of h.rows) [] h.rows plan
    h.planned
