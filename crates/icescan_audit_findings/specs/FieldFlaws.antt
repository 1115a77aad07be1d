-- A file's partition values, held against what its manifest says of the columns that they come from: Apache Iceberg
-- table spec, version 2, "Partition Transforms".
use Rattle.std.specs.Prelude.{ℕ, ℤ, pos, int_lt, Bool, false, not, ◌&&◌, ◌||◌, List, [], ◌∷◌, ◌++◌, map}
use Rattle.std.specs.Prelude.{Option, Some, None, is_some, if◌then◌else◌}
use Rattle.std.specs.Option.{option_and_then}
use Rattle.std.specs.Ordering.{int_eq, is_eq, is_some_and}
use Rattle.ice_value.specs.Cells.{order}
use Rattle.ice_value.specs.Columns.{count_of}
use Rattle.ice_value.specs.declared.cell.Cell.{Cell}
use Rattle.ice_value.specs.declared.cell.Cell.TheVariants.{Whole}
use Rattle.ice_value.specs.declared.column_type.ColumnType.{ColumnType}
use Rattle.ice_value.specs.declared.file_bounds.FileBounds.{FileBounds}
use Rattle.ice_transform.specs.Values.{is_rising, is_void, type_of, value_of}
use Rattle.ice_transform.specs.declared.transform.Transform.{Transform}
use Rattle.ice_transform.specs.declared.transform.Transform.TheVariants.{Bucket}
use Rattle.ice_filter.specs.Rows.{is_null}
use Rattle.ice_meta.specs.declared.spec.PartitionField.{PartitionField}
use Rattle.ice_meta.specs.declared.spec.Spec.{Spec}
use Rattle.ice_manifest_reading.specs.declared.row.Row.{Row}
use Rattle.ice_project.specs.Fields.{transform_named}
use Rattle.ice_project.specs.Files.{lower_limit, upper_limit}
use Rattle.ice_state.specs.Specs.{spec_of}
use Rattle.icescan_audit_findings.specs.declared.basis.Basis.{Basis}
use Rattle.icescan_audit_findings.specs.declared.fields.SourceField.{SourceField}
use Rattle.icescan_audit_findings.specs.declared.finding.FieldFlaw.TheVariants.{OtherNulls, OutsideBounds}
use Rattle.icescan_audit_findings.specs.declared.finding.Flaw.{Flaw}
use Rattle.icescan_audit_findings.specs.declared.finding.Flaw.TheVariants.{OfField}
use Rattle.icescan_audit_findings.specs.ColumnFlaws.{has_bound}
use Rattle.icescan_audit_findings.specs.Coverage.{is_above, is_below}
use Rattle.icescan_audit_findings.specs.Flaws.{flaw_where}

-- ---- nulls

-- not all values are null: their number is another one than that of the nulls; or it isn't said, and there is no null
abbrev pub differ : Option ℤ → Option ℤ → Bool
differ (Some values) (Some nulls) = not (int_eq values nulls)
differ (Some values) None = false
differ None (Some nulls) = int_eq nulls (pos 0)
differ None None = false

-- by its counts or its bounds the column has a value that isn't null
abbrev pub has_values : FileBounds → ℤ → Bool
has_values file column = differ (count_of column file.value_counts) (count_of column file.null_counts)
    || has_bound file column

abbrev pub is_other_than_none : Option ℤ → Bool
is_other_than_none None = false
is_other_than_none (Some n) = not (int_eq n (pos 0))

-- by its count the column has nulls
abbrev pub has_nulls : FileBounds → ℤ → Bool
has_nulls file column = is_other_than_none (count_of column file.null_counts)

-- a null value is one of nulls alone, and any other one of no null
abbrev pub has_other_nulls : FileBounds → ℤ → Cell → Bool
has_other_nulls file column p = if is_null p then has_values file column else has_nulls file column

-- ---- bounds

-- both bounds are there, and the same
abbrev pub are_one : Option Cell → Option Cell → Bool
are_one None high = false
are_one (Some low) None = false
are_one (Some low) (Some high) = is_some_and is_eq (order low high)

-- the value of a bound
abbrev pub value_at : Transform → ColumnType → Option Cell → Option Cell
value_at f t bound = option_and_then (value_of f t) bound

-- The value isn't one of a value between these bounds: the transform keeps the order, or there is but one value between
-- them, and the value is below that of the lower bound or above that of the upper one.
abbrev pub is_outside : Transform → ColumnType → Option Cell → Option Cell → Cell → Bool
is_outside f t low high p =
    (is_rising f || are_one low high) && not (is_above (value_at f t low) p && is_below (value_at f t high) p)

-- the value isn't one of so many buckets, which are numbered from 0
abbrev pub is_past_buckets : ℕ → Cell → Bool
is_past_buckets number (Whole bucket) = int_lt bucket (pos 0) || not (int_lt bucket (pos number))
is_past_buckets number p = false

-- the transform has buckets, and the value is none of them
abbrev pub is_no_bucket : Transform → Cell → Bool
is_no_bucket (Bucket buckets) p = is_past_buckets buckets.number p
is_no_bucket f p = false

-- no value between the bounds of the column has the value
abbrev pub is_outside_bounds : FileBounds → Transform → ColumnType → ℤ → Cell → Bool
is_outside_bounds file f t column p = not (is_null p)
    && (is_no_bucket f p || is_outside f t (lower_limit file t column) (upper_limit file t column) p)

-- ---- the fields of a spec

-- the type of the column, where the transform is known, takes it, and isn't void
abbrev pub type_taken : Transform → Option ColumnType → Option ColumnType
type_taken f None = None
type_taken f (Some t) = if not (is_void f) && is_some (type_of f t) then Some t else None

abbrev pub source_of : PartitionField → SourceField
source_of f = record {
  name = f.name;
  column = f.source_id;
  column_type = type_taken (transform_named f.transform) f.source_type;
  transform = transform_named f.transform;
}

-- the fields of the spec of a row's manifest
abbrev pub sources_in : Option Spec → List SourceField
sources_in None = []
sources_in (Some spec) = map source_of spec.fields

abbrev pub sources_of : Basis → Row → List SourceField
sources_of basis row = sources_in (spec_of basis.specs row.spec_id)

-- what is wrong with a file's value of a field
abbrev pub flaws_as : FileBounds → SourceField → Option ColumnType → Cell → List Flaw
flaws_as file f None p = []
flaws_as file f (Some t) p = flaw_where (has_other_nulls file f.column p) (OfField OtherNulls f.name)
    ++ flaw_where (is_outside_bounds file f.transform t f.column p) (OfField OutsideBounds f.name)

abbrev pub field_flaws : FileBounds → SourceField → Cell → List Flaw
field_flaws file f p = flaws_as file f f.column_type p

-- the same of its values of all fields, field by field
abbrev pub fields_flaws : FileBounds → List SourceField → List Cell → List Flaw
fields_flaws file [] tuple = []
fields_flaws file (f ∷ fs) [] = []
fields_flaws file (f ∷ fs) (p ∷ tuple) = field_flaws file f p ++ fields_flaws file fs tuple
