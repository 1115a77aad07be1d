use Rattle.std.proofs.Common.{◌<◌, ℕ, get_or}
use Rattle.std.specs.List.{Contains}
use Rattle.icescan_audit_findings.specs.declared.basis.TypedColumn.{TypedColumn}
use Rattle.icescan_audit_findings.proofs.places.numbered.Given as goal

abbrev pub invariant-columns : goal.invariant-columns
invariant-columns l =
    (k : ℕ) (d : TypedColumn) → k < l.i → Contains l.places.items ((get_or l.columns k d).id, k)
