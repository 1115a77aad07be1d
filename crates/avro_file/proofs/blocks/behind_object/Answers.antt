use Rattle.avro_schema.specs.View.{tree}
use Rattle.avro_file.proofs.Places.{object_passed}
use Rattle.avro_file.proofs.blocks.behind_object.Goals as goal

pub returns-in-Some : goal.returns-in-Some
returns-in-Some c = object_passed (tree c.args.schema.now) c.args.block.now c.in-Some.end c.value_end.new.left
    c.in-Some.ensures
