use Rattle.avro_schema.specs.View.{tree}
use Rattle.avro_file_picked.proofs.Rows.{steps_on}
use Rattle.avro_file_picked.proofs.row.push_step.Goals as goal

pub returns : goal.returns
returns c = λ ts alike.
    rw c.in_ok-push.ensures.items (steps_on c.args.steps.now.items (record { schema = c.in_ok-lean_schema.field-0 }) ts
    (tree c.args.schema.now) alike c.in_ok-lean_schema.ensures)
