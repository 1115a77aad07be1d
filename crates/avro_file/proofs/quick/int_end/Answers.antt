use Rattle.avro_file.proofs.Places.{short_int}
use Rattle.avro_file.proofs.quick.int_end.Goals as goal

pub returns-then-bytes-at-lt128 : goal.returns-then-bytes-at-lt128
returns-then-bytes-at-lt128 c = short_int c.args.bytes.now c.args.at c.if-at-bytes.true c.if-bytes-at-lt128.true
