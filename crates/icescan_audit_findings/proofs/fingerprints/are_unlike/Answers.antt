use Rattle.std.proofs.Common.{arith}
use Rattle.icescan_audit_findings.proofs.Fingerprinted.{far_more}
use Rattle.icescan_audit_findings.proofs.fingerprints.are_unlike.Goals as goal

pub numbers-preserved-then-one-i-2 : goal.numbers-preserved-then-one-i-2
numbers-preserved-then-one-i-2 c = record {
  one = far_more c.args.one.now c.args.other.now c.numbers.i c.numbers.j c.requires.1 c.numbers.invariant.one
      c.numbers.invariant.other c.numbers-test.true c.if-one-i-2.true;
  other = c.numbers.invariant.other;
}

pub numbers-preserved : goal.numbers-preserved
numbers-preserved c = record {
  one = c.numbers.invariant.one;
  other = far_more c.args.other.now c.args.one.now c.numbers.j c.numbers.i c.requires.0 c.numbers.invariant.other
      c.numbers.invariant.one c.if-j-other.true (omega (arith, c.if-one-i.false, c.if-one-i-2.false));
}
