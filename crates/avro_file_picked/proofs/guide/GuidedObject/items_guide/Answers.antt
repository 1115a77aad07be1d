use Rattle.avro_file.specs.Picking.{pick}
use Rattle.avro_file_picked.specs.Guides.{seen, type_guided}
use Rattle.avro_file_picked.proofs.Values.{stood}
use Rattle.avro_file_picked.proofs.Guided.{items_guided, nothing_listed}
use Rattle.avro_file_picked.proofs.guide.GuidedObject.items_guide.Goals as goal

pub returns-in-Ok-Some : goal.returns-in-Ok-Some
returns-in-Ok-Some c = λ field_paths t v is asked.
    let g = c.args.self.now.guide.now in
    let read = stood t c.args.self.now.bytes.now v is.1 in
    let led = rw c.in-Ok-Some.field-0-is at
    (c.in-Ok-Some.ensures field_paths v read.0 is.0.1 asked (rw is.0.0 read.1)) in
    rw (← is.0.0) (items_guided field_paths (pick c.args.field_path.now (type_guided (seen g), v))
    (type_guided (seen c.in-Ok-Some.list.now)) led.0 c.items_part.result led.2 (c.items_part.ensures field_paths led.3))

pub returns-in-Ok-None : goal.returns-in-Ok-None
returns-in-Ok-None c = λ field_paths t v is asked.
    let g = c.args.self.now.guide.now in
    let read = stood t c.args.self.now.bytes.now v is.1 in
    let led = rw c.in-Ok-None.field-0-is at
    (c.in-Ok-None.ensures field_paths v read.0 is.0.1 asked (rw is.0.0 read.1)) in
    rw (← is.0.0) (nothing_listed (pick c.args.field_path.now (type_guided (seen g), v)) led)

pub returns-in-Err : goal.returns-in-Err
returns-in-Err c = λ field_paths t v is asked.
    let read = stood t c.args.self.now.bytes.now v is.1 in
    absurd (c.in-Err.ensures field_paths v read.0 is.0.1 asked (rw is.0.0 read.1))
