use Rattle.std.proofs.Common.{◌≡◌, ◌++◌, length}
use Rattle.icescan_audit_findings.specs.Spelling.{with_slashes}
use Rattle.icescan_audit_findings.proofs.spelling.with_slashes.Given as goal

-- the bytes so far, and those of what is left
abbrev pub invariant-left : goal.invariant-left
invariant-left l = l.bytes.items ++ with_slashes l.left ≡ with_slashes l.path

abbrev pub decreases-left : goal.decreases-left
decreases-left l = length l.left
