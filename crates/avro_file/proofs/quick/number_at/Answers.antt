use Rattle.std.proofs.Common.{arith}
use Rattle.avro_file_parts.proofs.NumberPlaces.{one_group}
use Rattle.avro_file.proofs.quick.number_at.Goals as goal

pub returns-then-first-lt128 : goal.returns-then-first-lt128
returns-then-first-lt128 c = λ some. (
  omega arith,
  omega (arith, c.if-at-bytes.true),
  rw c.from.ensures
      (one_group c.args.bytes.now c.args.at c.if-at-bytes.true c.if-first-lt128.true),
)
