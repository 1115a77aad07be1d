use Rattle.std.proofs.Common.{ℕ, ℤ, List, subst, sym}
use Rattle.icescan_audit_findings.specs.Places.{HasPlaces}
use Rattle.icescan_audit_findings.specs.declared.basis.TypedColumn.{TypedColumn}
use Rattle.icescan_audit_findings.proofs.typed_columns.TypedColumns.lent.Goals as goal

pub lent-requires-clause-places : goal.lent-requires-clause-places
lent-requires-clause-places c =
    subst (λ (places : List (ℤ × ℕ)). HasPlaces c.deref.result.now places) (sym c.deref-3.ensures.value)
    (subst (λ (columns : List TypedColumn). HasPlaces columns c.self.inside.places.items) (sym c.deref.ensures.value)
    c.self.invariant.1)
