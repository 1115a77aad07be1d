use Rattle.avro_schema.specs.View.{tree}
use Rattle.avro_file_picked.specs.Rows.{row}
use Rattle.avro_file_picked.proofs.Placed.{row_begun, steps_many}
use Rattle.avro_file_picked.proofs.row.steps_of.Goals as goal

pub returns-clause-alike : goal.returns-clause-alike
returns-clause-alike c = row_begun c.new-steps.result.items c.push_row.new.steps.items (row (tree c.args.schema.now))
    c.new-steps.ensures.items c.in_ok-push_row.ensures

pub returns-clause-many : goal.returns-clause-many
returns-clause-many c = steps_many c.push_row.new.steps.items (row (tree c.args.schema.now))
    (row_begun c.new-steps.result.items c.push_row.new.steps.items (row (tree c.args.schema.now))
    c.new-steps.ensures.items c.in_ok-push_row.ensures)
