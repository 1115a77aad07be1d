use Rattle.std.proofs.Common.{List, subst}
use Rattle.icescan_audit_findings.specs.Places.{HasPlaces}
use Rattle.icescan_audit_findings.specs.declared.basis.TypedColumn.{TypedColumn}
use Rattle.icescan_audit_findings.proofs.typed_columns.TypedColumns.new.Goals as goal

pub invariant_of-result : goal.invariant_of-result
invariant_of-result c = (
  c.in_ok-ids.ensures,
  subst (λ (columns : List TypedColumn). HasPlaces columns c.in_ok-places.places.items) c.deref-2.ensures.value
      c.in_ok-places.ensures,
)
