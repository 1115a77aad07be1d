use Rattle.avro_file.proofs.Places.{short_long}
use Rattle.avro_file.proofs.quick.long_end.Goals as goal

pub returns-then-bytes-at-lt128 : goal.returns-then-bytes-at-lt128
returns-then-bytes-at-lt128 c = short_long c.args.bytes.now c.args.at c.if-at-bytes.true c.if-bytes-at-lt128.true
