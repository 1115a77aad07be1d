use Rattle.avro_file_picked.proofs.found.Found.on_field_path.Goals as goal

pub returns : goal.returns
returns c = λ v is. rw (← c.schema.ensures)
    (c.found_on_field_path.ensures v (rw (c.schema.ensures, c.bytes.ensures) is))
