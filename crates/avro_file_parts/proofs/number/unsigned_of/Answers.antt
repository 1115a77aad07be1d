use Rattle.avro_file_parts.proofs.NumberPlaces.{one_group, to_end}
use Rattle.avro_file_parts.proofs.number.unsigned_of.Goals as goal

pub returns-in-len1-up : goal.returns-in-len1-up
returns-in-len1-up c = rw (c.from.ensures, to_end c.args.bytes.now 1) (one_group c.args.bytes.now 0
    c.in-len1-up.len_at_least c.if-first-lt128.true)
