use Rattle.std.proofs.Common.{arith}
use Rattle.icescan_audit_findings.proofs.fingerprints.rise.Goals as goal

pub returns : goal.returns
returns c = λ _ k low. c.numbers.invariant k (omega (arith, low, c.numbers-test.false, c.numbers.auto.i-end))
