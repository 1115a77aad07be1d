use Rattle.std.proofs.Common.{arith}
use Rattle.avro_file.proofs.Places.{bytes_found}
use Rattle.avro_file.proofs.quick.run_within.Goals as goal

pub returns : goal.returns
returns c =
    let n = c.number_at-value.result.0 in
    λ some. (
      omega arith,
      bytes_found c.args.bytes.now c.args.at n c.number_at-value.result.1 (c.number_at-value.ensures
          c.if-start-eq0.false) c.if-value-ne0.false (omega (arith, c.if-bytes-start.false)),
    )
