use Rattle.avro_file.proofs.Places.{truth_ends}
use Rattle.avro_file.proofs.quick.boolean_end.Goals as goal

pub returns-then-bytes-at-lt2 : goal.returns-then-bytes-at-lt2
returns-then-bytes-at-lt2 c = truth_ends c.args.bytes.now c.args.at c.if-at-bytes.true c.if-bytes-at-lt2.true
