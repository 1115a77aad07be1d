use Rattle.std.proofs.Common.{◌≡◌, ◌+◌, ◌-◌, ◌++◌, drop, arith, rules, ap, to_z-of_z}
use Rattle.std.proofs.lemmas.Fmt.{length-decimal-le}
use Rattle.std.proofs.lemmas.List.{drop-set}
use Rattle.itoa.proofs.Decimal.{minus_first}
use Rattle.icescan_print.proofs.endings.put_digits_before.Goals as goal

pub write_digits-start-requires : goal.write_digits-start-requires
write_digits-start-requires c =
    (omega (arith, length-decimal-le 19 c.unsigned_abs.result (omega arith) (omega arith) (omega arith)), search rules)

pub overflow_sub-bytes : goal.overflow_sub-bytes
overflow_sub-bytes c = omega (arith, length-decimal-le 19 c.unsigned_abs.result (omega arith) (omega arith) (omega arith))

pub overflow_sub-result : goal.overflow_sub-result
overflow_sub-result c = omega (arith, length-decimal-le 19 c.unsigned_abs.result (omega arith) (omega arith) (omega arith))

pub returns-then-n-ge0-clause-start : goal.returns-then-n-ge0-clause-start
returns-then-n-ge0-clause-start c = omega (
  arith,
  c.write_digits-start.ensures.start,
  length-decimal-le 19 c.unsigned_abs.result (omega arith) (omega arith) (omega arith),
)

pub returns-clause-start : goal.returns-clause-start
returns-clause-start c = omega (
  arith,
  c.write_digits-start.ensures.start,
  length-decimal-le 19 c.unsigned_abs.result (omega arith) (omega arith) (omega arith),
)

pub returns-clause-text : goal.returns-clause-text
returns-clause-text c =
    let w = c.write_digits-start in
    let long = length-decimal-le 19 c.unsigned_abs.result (omega arith) (omega arith) (omega arith) in
    let e : w.result - 1 + 1 ≡ w.result = omega arith in
    let back = to_z-of_z c.ranges.n in
    rw (drop-set w.new.buf (w.result - 1) 45 (omega arith), e, w.ensures.written, c.unsigned_abs.ensures.value, back)
    (ap (λ l. l ++ drop c.args.end c.args.bytes.now) (minus_first c.args.n (rw back at c.if-n-ge0.false)))
