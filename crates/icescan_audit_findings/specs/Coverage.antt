-- What the summaries of a manifest list's row let partition values be: Apache Iceberg table spec, version 2, "Manifest
-- Lists" (`field_summary`).
use Rattle.std.specs.Prelude.{ℕ, Bool, true, false, ◌&&◌, ◌||◌, ◌==◌, List, [], ◌∷◌, length, Option, None, Some}
use Rattle.std.specs.Prelude.{if◌then◌else◌, is_some}
use Rattle.std.specs.Option.{option_and_then}
use Rattle.ice_value.specs.Cells.{is_at_most}
use Rattle.ice_value.specs.declared.cell.Cell.{Cell}
use Rattle.ice_value.specs.declared.file_bounds.Summary.{Summary}
use Rattle.ice_filter.specs.Rows.{is_null}
use Rattle.ice_meta.specs.declared.spec.PartitionField.{PartitionField}
use Rattle.ice_meta.specs.declared.spec.Spec.{Spec}
use Rattle.ice_project.specs.Fields.{field_of}
use Rattle.ice_project.specs.Limits.{limit}
use Rattle.ice_project.specs.Summaries.{type_of_values}
use Rattle.icescan_audit_findings.specs.declared.limits.FieldLimits.{FieldLimits}

-- the value is of the kind of the lower bound and not below it, where there is one
abbrev pub is_above : Option Cell → Cell → Bool
is_above None value = true
is_above (Some bound) value = is_at_most bound value

-- the value is of the kind of the upper bound and not above it, where there is one
abbrev pub is_below : Option Cell → Cell → Bool
is_below None value = true
is_below (Some bound) value = is_at_most value bound

-- the field may have this value
abbrev pub allows : FieldLimits → Cell → Bool
allows l value = if is_null value then l.null else is_above l.low value && is_below l.high value

-- the value is null, or the summary has both bounds
abbrev pub is_bounded : FieldLimits → Cell → Bool
is_bounded l value = is_null value || l.bounded

-- a bound as it is read, by the type of the field's values
abbrev pub bound_of : PartitionField → Option (List ℕ) → Option Cell
bound_of f bytes = option_and_then (λ t. limit t bytes) (type_of_values (field_of f))

-- what a field's summary lets its values be
abbrev pub limits_of : PartitionField → Summary → FieldLimits
limits_of f s = record {
  name = f.name;
  null = s.contains_null;
  low = bound_of f s.lower;
  high = bound_of f s.upper;
  bounded = is_some s.lower && is_some s.upper;
}

-- the same of each field that has a summary
abbrev pub limits_in : List PartitionField → List Summary → List FieldLimits
limits_in [] ss = []
limits_in (f ∷ fs) [] = []
limits_in (f ∷ fs) (s ∷ ss) = limits_of f s ∷ limits_in fs ss

-- what a row lets the values of its spec's fields be; summaries of another number of fields say nothing
abbrev pub row_limits : Spec → Option (List Summary) → List FieldLimits
row_limits spec None = []
row_limits spec (Some ss) = if length ss == length spec.fields then limits_in spec.fields ss else []

-- the name of a field whose value isn't allowed
abbrev pub unless_allowed : Bool → List ℕ → List (List ℕ) → List (List ℕ)
unless_allowed true name names = names
unless_allowed false name names = name ∷ names

-- the names of the fields whose value isn't within the limits
abbrev pub outside : List FieldLimits → List Cell → List (List ℕ)
outside [] tuple = []
outside (l ∷ ls) [] = []
outside (l ∷ ls) (value ∷ tuple) = unless_allowed (allows l value) l.name (outside ls tuple)

-- the names of the fields whose value isn't null beside a summary that lacks a bound
abbrev pub unbounded : List FieldLimits → List Cell → List (List ℕ)
unbounded [] tuple = []
unbounded (l ∷ ls) [] = []
unbounded (l ∷ ls) (value ∷ tuple) = unless_allowed (is_bounded l value) l.name (unbounded ls tuple)
