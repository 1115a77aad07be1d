use Rattle.std.proofs.Common.{◌≡◌, take}
use Rattle.icescan_audit_all.specs.Manifests.{rows_of}
use Rattle.icescan_audit_all.proofs.manifests.rows_of.Given as goal

abbrev pub invariant-audits : goal.invariant-audits
invariant-audits l = l.rows.items ≡ rows_of (take l.each-index l.audits)
