use Rattle.avro_file_picked.proofs.guide.Guide.found.Goals as goal

pub returns : goal.returns
returns c = λ field_paths t v is asked there. rw (← is.0) (c.found_by.ensures field_paths v is.1 asked (rw is.0 there))
