use Rattle.avro_schema.specs.View.{tree}
use Rattle.avro_file.specs.Picking.{pick}
use Rattle.avro_file_picked.proofs.Values.{stood}
use Rattle.avro_file_picked.proofs.FieldPaths.{as_found}
use Rattle.avro_file_picked.proofs.found.found_on_field_path.Goals as goal

pub returns-in-Ok-Some : goal.returns-in-Ok-Some
returns-in-Ok-Some c = λ v is.
    let read = stood (tree c.args.schema.now) c.args.bytes.now v is in
    as_found (pick c.args.field_path.now (tree c.args.schema.now, v)) c.in-Ok-Some.schema c.in-Ok-Some.place
    (rw c.in-Ok-Some.field-0-is at (c.in-Ok-Some.ensures v read.0 read.1))

pub returns-in-Ok-None : goal.returns-in-Ok-None
returns-in-Ok-None c = λ v is.
    let read = stood (tree c.args.schema.now) c.args.bytes.now v is in
    rw c.in-Ok-None.field-0-is at (c.in-Ok-None.ensures v read.0 read.1)

pub returns-in-Err : goal.returns-in-Err
returns-in-Err c = λ v is.
    let read = stood (tree c.args.schema.now) c.args.bytes.now v is in absurd (c.in-Err.ensures v read.0 read.1)
