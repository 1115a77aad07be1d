use Rattle.std.proofs.Common.{arith}
use Rattle.avro_file.proofs.Paired.{bytes_pair_somewhere, short_bytes_pair}
use Rattle.avro_file.proofs.quick.bytes_pair_end.Goals as goal

pub returns-then-bytes-at : goal.returns-then-bytes-at
returns-then-bytes-at c = λ left.
    short_bytes_pair c.args.bytes.now c.args.at _ left (omega (arith, c.if-bytes-at-ge2.true))
    c.if-bytes-at-lt128.true c.if-len-lt128.true c.if-len-eq0.true
    (omega (arith, c.from.ensures, c.if-bytes-at.true)) (omega (arith, c.from-then-bytes-at.ensures))

pub returns : goal.returns
returns c = bytes_pair_somewhere c.args.bytes.now c.args.at c.in_ok-value.value c.bytes_end.result
    c.in_ok-value.ensures c.bytes_end.ensures
