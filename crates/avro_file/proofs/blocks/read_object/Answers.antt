use Rattle.avro_schema.specs.View.{tree}
use Rattle.avro_file_parts.specs.Place.{position_of}
use Rattle.avro_file.proofs.Behind.{object_ends, object_fails}
use Rattle.avro_file.proofs.blocks.read_object.Goals as goal

pub returns-in-Ok : goal.returns-in-Ok
returns-in-Ok c = object_ends (tree c.args.schema.now) c.args.block.now (position_of c.in-Ok.after) c.in-Ok.ensures

pub returns-in-Err : goal.returns-in-Err
returns-in-Err c = rw c.refused_inside.ensures (object_fails (tree c.args.schema.now) c.args.block.now c.in-Err.refusal
    c.in-Err.ensures)
