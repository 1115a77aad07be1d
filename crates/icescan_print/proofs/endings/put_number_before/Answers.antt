use Rattle.std.proofs.Common.{arith}
use Rattle.std.proofs.lemmas.Fmt.{length-decimal-le}
use Rattle.icescan_print.proofs.endings.put_number_before.Goals as goal

pub write_digits-start-requires : goal.write_digits-start-requires
write_digits-start-requires c = (
  omega (arith, c.requires.0, length-decimal-le 20 c.args.n (omega arith) (omega arith) (omega arith)),
  c.requires.1,
)

pub put_before-requires : goal.put_before-requires
put_before-requires c = (
  omega (
    arith,
    c.requires.0,
    c.write_digits-start.ensures.start,
    length-decimal-le 20 c.args.n (omega arith) (omega arith) (omega arith),
  ),
  omega (arith, c.requires.1, c.write_digits-start.ensures.start, c.write_digits-start.auto.buf),
)

pub returns-clause-start : goal.returns-clause-start
returns-clause-start c = omega (
  arith,
  c.write_digits-start.ensures.start,
  c.put_before.ensures.start,
  length-decimal-le 20 c.args.n (omega arith) (omega arith) (omega arith),
)
