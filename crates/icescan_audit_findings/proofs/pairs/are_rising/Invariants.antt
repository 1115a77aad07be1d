use Rattle.std.proofs.Common.{◌<◌, ℕ, get_or}
use Rattle.std.specs.Prelude.{◌<ℤ◌}
use Rattle.icescan_audit_findings.proofs.pairs.are_rising.Given as goal

-- each of those so far is above those before it
abbrev pub invariant-pairs : goal.invariant-pairs
invariant-pairs g l = (a b : ℕ) (d : _) → a < b → b < l.i → (get_or l.pairs a d).0 <ℤ (get_or l.pairs b d).0
