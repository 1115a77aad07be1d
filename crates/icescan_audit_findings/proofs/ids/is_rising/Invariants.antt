use Rattle.std.proofs.Common.{◌<◌, ℕ, get_or, pos}
use Rattle.std.specs.Prelude.{◌<ℤ◌}
use Rattle.icescan_audit_findings.proofs.ids.is_rising.Given as goal

-- each of those so far is above those before it
abbrev pub invariant-ids : goal.invariant-ids
invariant-ids l = (a b : ℕ) → a < b → b < l.i → get_or l.ids a (pos 0) <ℤ get_or l.ids b (pos 0)
