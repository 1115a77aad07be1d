use Rattle.avro_file.specs.Picking.{pick}
use Rattle.avro_file_picked.specs.Guides.{seen, type_guided}
use Rattle.avro_file_picked.proofs.Values.{stood}
use Rattle.avro_file_picked.proofs.Guided.{guided_there}
use Rattle.avro_file_picked.proofs.guide.found_by.Goals as goal

pub returns-in-Ok-Some : goal.returns-in-Ok-Some
returns-in-Ok-Some c = λ field_paths v is asked there.
    let read = stood (type_guided (seen c.args.guide.now)) c.args.bytes.now v there in
    guided_there field_paths
    (pick c.args.field_path.now (type_guided (seen c.args.guide.now), v)) c.in-Ok-Some.guide c.in-Ok-Some.place
    (rw c.in-Ok-Some.field-0-is at (c.in-Ok-Some.ensures field_paths v read.0 is asked read.1))

pub returns-in-Ok-None : goal.returns-in-Ok-None
returns-in-Ok-None c = λ field_paths v is asked there.
    let read = stood (type_guided (seen c.args.guide.now)) c.args.bytes.now v there in
    rw c.in-Ok-None.field-0-is at (c.in-Ok-None.ensures field_paths v read.0 is asked read.1)

pub returns-in-Err : goal.returns-in-Err
returns-in-Err c = λ field_paths v is asked there.
    let read = stood (type_guided (seen c.args.guide.now)) c.args.bytes.now v there in
    absurd (c.in-Err.ensures field_paths v read.0 is asked read.1)
