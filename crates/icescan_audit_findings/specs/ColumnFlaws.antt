-- What a manifest says of the columns of a file and what can't be: Apache Iceberg table spec, version 2, "Manifests".
use Rattle.std.specs.Prelude.{ℕ, ℤ, pos, int_lt, Bool, false, ◌&&◌, ◌||◌, List, ◌++◌, Option, None, Some, is_some}
use Rattle.std.specs.List.{flat_map}
use Rattle.std.specs.Ordering.{is_gt, is_some_and}
use Rattle.ice_value.specs.Cells.{order}
use Rattle.ice_value.specs.Columns.{bound_of, count_of}
use Rattle.ice_value.specs.declared.cell.Cell.{Cell}
use Rattle.ice_value.specs.declared.column_type.ColumnType.{ColumnType}
use Rattle.ice_value.specs.declared.file_bounds.FileBounds.{FileBounds}
use Rattle.ice_project.specs.Files.{is_all_null}
use Rattle.ice_project.specs.Limits.{limit}
use Rattle.icescan_audit_findings.specs.declared.basis.TypedColumn.{TypedColumn}
use Rattle.icescan_audit_findings.specs.declared.finding.ColumnFlaw.TheVariants.{BoundsOfNulls, NegativeCounts}
use Rattle.icescan_audit_findings.specs.declared.finding.Flaw.{Flaw}
use Rattle.icescan_audit_findings.specs.declared.finding.Flaw.TheVariants.{BoundsCross, ExcessNulls, OfColumn}
use Rattle.icescan_audit_findings.specs.Flaws.{flaw_where}

-- both bounds are there, and the lower one is above the upper one
abbrev pub is_past : Option Cell → Option Cell → Bool
is_past None high = false
is_past (Some low) None = false
is_past (Some low) (Some high) = is_some_and is_gt (order low high)

-- the same of bytes, as bounds of a column of this type are read
abbrev pub cross : Option ColumnType → Option (List ℕ) → Option (List ℕ) → Bool
cross None low high = false
cross (Some t) low high = is_past (limit t low) (limit t high)

-- the column's lower bound is above its upper one
abbrev pub bounds_cross : FileBounds → TypedColumn → Bool
bounds_cross file c = cross c.column_type (bound_of c.id file.lower_bounds) (bound_of c.id file.upper_bounds)

-- both numbers are there, and the first is above the second
abbrev pub is_more : Option ℤ → Option ℤ → Bool
is_more None n = false
is_more (Some m) None = false
is_more (Some m) (Some n) = int_lt n m

-- more values of the column are null than there are
abbrev pub has_excess_nulls : FileBounds → ℤ → Bool
has_excess_nulls file column = is_more (count_of column file.null_counts) (count_of column file.value_counts)

-- the number is there and below 0
abbrev pub is_less_than_none : Option ℤ → Bool
is_less_than_none None = false
is_less_than_none (Some n) = int_lt n (pos 0)

-- the column has fewer than no values, or than no nulls
abbrev pub has_negative_counts : FileBounds → ℤ → Bool
has_negative_counts file column = is_less_than_none (count_of column file.value_counts)
    || is_less_than_none (count_of column file.null_counts)

-- there is a bound of the column
abbrev pub has_bound : FileBounds → ℤ → Bool
has_bound file column = is_some (bound_of column file.lower_bounds) || is_some (bound_of column file.upper_bounds)

-- all values of the column are null by their counts, and yet there is a bound
abbrev pub has_bounds_of_nulls : FileBounds → ℤ → Bool
has_bounds_of_nulls file column = is_all_null file column && has_bound file column

-- what is wrong with its counts
abbrev pub count_flaws_of : FileBounds → ℤ → List Flaw
count_flaws_of file column = flaw_where (has_negative_counts file column) (OfColumn NegativeCounts column)
    ++ flaw_where (has_bounds_of_nulls file column) (OfColumn BoundsOfNulls column)

-- what is wrong with what is said of a column
abbrev pub column_flaws : FileBounds → TypedColumn → List Flaw
column_flaws file c = flaw_where (bounds_cross file c) (BoundsCross c.id)
    ++ (flaw_where (has_excess_nulls file c.id) (ExcessNulls c.id) ++ count_flaws_of file c.id)

-- the same of the columns, one after the other
abbrev pub columns_flaws : FileBounds → List TypedColumn → List Flaw
columns_flaws file columns = flat_map (column_flaws file) columns
