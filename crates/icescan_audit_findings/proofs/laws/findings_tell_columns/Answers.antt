use Rattle.std.proofs.Common.{refl}
use Rattle.icescan_audit_findings.specs.ColumnFlaws.{bounds_cross, has_bounds_of_nulls, has_excess_nulls}
use Rattle.icescan_audit_findings.specs.ColumnFlaws.{has_negative_counts}
use Rattle.icescan_audit_findings.specs.declared.finding.ColumnFlaw.TheVariants.{BoundsOfNulls, NegativeCounts}
use Rattle.icescan_audit_findings.specs.declared.finding.Flaw.TheVariants.{BoundsCross, ExcessNulls, OfColumn}
use Rattle.icescan_audit_findings.proofs.Said.{cross_tells, cross_told, from_finding, negative_tells, negative_told}
use Rattle.icescan_audit_findings.proofs.Said.{nulls_tells, nulls_told, of_id, of_nulls_tells, of_nulls_told}
use Rattle.icescan_audit_findings.proofs.Said.{to_finding}
use Rattle.icescan_audit_findings.proofs.laws.findings_tell_columns.Goals as goal

pub returns-clause-bounds : goal.returns-clause-bounds
returns-clause-bounds c = λ basis row spec tallies lives path column. (
  from_finding BoundsCross bounds_cross (λ _. refl) cross_told cross_tells basis row spec tallies lives path column,
  to_finding BoundsCross bounds_cross (λ _. refl) cross_told cross_tells basis row spec tallies lives path column,
)

pub returns-clause-nulls : goal.returns-clause-nulls
returns-clause-nulls c = λ basis row spec tallies lives path column. (
  from_finding ExcessNulls (of_id has_excess_nulls) (λ _. refl) nulls_told nulls_tells basis row spec tallies lives path column,
  to_finding ExcessNulls (of_id has_excess_nulls) (λ _. refl) nulls_told nulls_tells basis row spec tallies lives path column,
)

pub returns-clause-negative : goal.returns-clause-negative
returns-clause-negative c = λ basis row spec tallies lives path column. (
  from_finding (OfColumn NegativeCounts) (of_id has_negative_counts) (λ _. refl) negative_told negative_tells basis row spec tallies lives path column,
  to_finding (OfColumn NegativeCounts) (of_id has_negative_counts) (λ _. refl) negative_told negative_tells basis row spec tallies lives path column,
)

pub returns-clause-of_nulls : goal.returns-clause-of_nulls
returns-clause-of_nulls c = λ basis row spec tallies lives path column. (
  from_finding (OfColumn BoundsOfNulls) (of_id has_bounds_of_nulls) (λ _. refl) of_nulls_told of_nulls_tells basis row spec tallies lives path column,
  to_finding (OfColumn BoundsOfNulls) (of_id has_bounds_of_nulls) (λ _. refl) of_nulls_told of_nulls_tells basis row spec tallies lives path column,
)
