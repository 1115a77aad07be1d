use Rattle.std.proofs.Common.{◌≡◌, length}
use Rattle.icescan_audit_findings.specs.Spelling.{has_oddity}
use Rattle.icescan_audit_findings.proofs.spelling.has_oddity.Given as goal

-- nothing was odd so far
abbrev pub invariant-left : goal.invariant-left
invariant-left l = has_oddity l.before l.left ≡ has_oddity 0 l.path

abbrev pub decreases-left : goal.decreases-left
decreases-left l = length l.left
