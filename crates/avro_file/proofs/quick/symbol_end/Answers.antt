use Rattle.std.proofs.Common.{arith}
use Rattle.avro_file.proofs.Places.{symbol_ends}
use Rattle.avro_file.proofs.quick.symbol_end.Goals as goal

pub returns : goal.returns
returns c = symbol_ends c.args.bytes.now c.args.count c.args.at c.number_at-value.result.0 c.number_at-value.result.1
    (c.number_at-value.ensures c.if-end-eq0.false) (omega (arith, c.if-value-from.false, c.from.ensures))
    c.if-value-ne0.false (omega (arith, c.if-value-count.false))
