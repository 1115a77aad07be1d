use Rattle.avro_file_picked.proofs.Placed.{to_the_end}
use Rattle.avro_file_picked.proofs.layout.found_at.Goals as goal

pub returns : goal.returns
returns c = λ v is.
    rw (← to_the_end c.args.lead.passed c.args.field_path.now)
    (c.found_on_field_path.ensures v (rw (to_the_end c.args.start
    c.args.bytes.now) is))
