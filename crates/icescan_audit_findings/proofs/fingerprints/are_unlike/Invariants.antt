use Rattle.std.proofs.Common.{◌+◌, ◌-◌, length}
use Rattle.icescan_audit_findings.proofs.Fingerprinted.{AreFar}
use Rattle.icescan_audit_findings.proofs.fingerprints.are_unlike.Given as goal

abbrev pub invariant-numbers : goal.invariant-numbers
invariant-numbers l = record {
  one : AreFar l.one l.i l.other;
  other : AreFar l.other l.j l.one;
}

abbrev pub decreases-numbers : goal.decreases-numbers
decreases-numbers l = (length l.one - l.i) + (length l.other - l.j)
