use Rattle.icescan_audit_findings.proofs.Fingerprinted.{RiseUpTo}
use Rattle.icescan_audit_findings.proofs.fingerprints.rise.Given as goal

abbrev pub invariant-numbers : goal.invariant-numbers
invariant-numbers l = RiseUpTo l.numbers l.i
