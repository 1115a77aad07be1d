use Rattle.avro_schema.specs.View.{tree}
use Rattle.avro_file_parts.specs.Place.{position_of}
use Rattle.avro_file_picked.proofs.Rows.{value_ends, value_fits}
use Rattle.avro_file_picked.proofs.row.exact_end.Goals as goal

pub returns-in-Ok : goal.returns-in-Ok
returns-in-Ok c = value_ends (tree c.args.schema.now) c.args.bytes.now c.args.at c.args.left.now
    (position_of c.in-Ok.after) c.requires c.in-Ok.ensures

pub overflow_sub-result : goal.overflow_sub-result
overflow_sub-result c = value_fits (tree c.args.schema.now) c.args.bytes.now c.args.at c.args.left.now
    (position_of c.in-Ok.after) c.in-Ok.ensures
