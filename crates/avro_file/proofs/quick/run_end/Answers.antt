use Rattle.std.proofs.Common.{arith}
use Rattle.avro_file.proofs.Places.{run_ends}
use Rattle.avro_file.proofs.quick.run_end.Goals as goal

pub returns : goal.returns
returns c = run_ends c.args.len c.args.at c.args.bytes.now c.requires (omega (arith, c.if-bytes-at.false))
