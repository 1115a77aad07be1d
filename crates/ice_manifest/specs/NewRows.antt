-- The row of a manifest that a commit adds (Apache Iceberg table spec v2, "Manifest Lists": its counts and the
-- summaries of its partition fields).
use Rattle.std.specs.Prelude.{ℕ, suc, ℤ, pos, ◌+ℤ◌, Bool, true, false, List, [], ◌∷◌, length, map, Option, Some, None}
use Rattle.std.specs.Prelude.{unwrap_or, option_and_then, not, ◌||◌, if◌then◌else◌}
use Rattle.std.specs.List.{list_any, slice_get}
use Rattle.std.specs.Ordering.{is_lt}
use Rattle.ice_value.specs.declared.column_type.ColumnType.{ColumnType}
use Rattle.ice_value.specs.declared.column_type.ColumnType.TheVariants.{Uuid}
use Rattle.ice_value.specs.declared.cell.Cell.{Cell}
use Rattle.ice_value.specs.declared.cell.Cell.TheVariants.{Null}
use Rattle.ice_value.specs.declared.file_bounds.Summary.{Summary}
use Rattle.ice_value.specs.Bounds.{written}
use Rattle.ice_value.specs.Cells.{cell_cmp}
use Rattle.ice_manifest_reading.specs.declared.counts.Counts.{Counts}
use Rattle.ice_manifest_reading.specs.declared.row.Row.{Row}
use Rattle.ice_manifest.specs.declared.new_file.NewFile.{NewFile}
use Rattle.ice_manifest.specs.declared.heading.Heading.{Heading}

-- ---- summaries

abbrev pub is_null : Cell → Bool
is_null Null = true
is_null c = false

-- the lesser of what was found and another cell
abbrev pub lesser : Option Cell → Cell → Option Cell
lesser None c = Some c
lesser (Some d) c = if is_lt (cell_cmp c d) then Some c else Some d

abbrev pub greater : Option Cell → Cell → Option Cell
greater None c = Some c
greater (Some d) c = if is_lt (cell_cmp d c) then Some c else Some d

-- nulls are passed over
abbrev pub unless_null : (Option Cell → Cell → Option Cell) → Option Cell → Cell → Option Cell
unless_null better found c = if is_null c then found else better found c

-- the best of what was found and other cells
abbrev pub best_of : (Option Cell → Cell → Option Cell) → Option Cell → List Cell → Option Cell
best_of better found [] = found
best_of better found (c ∷ cs) = best_of better (unless_null better found c) cs

-- the least value, and the greatest; none where all are null
abbrev pub least : List Cell → Option Cell
least cs = best_of lesser None cs

abbrev pub greatest : List Cell → Option Cell
greatest cs = best_of greater None cs

-- the cell as a bound of a field of this type; a uuid is none
abbrev pub bound_of : ColumnType → Option Cell → Option (List ℕ)
bound_of Uuid c = None
bound_of t c = option_and_then (written t) c

-- the summary of the values of a field of this type
abbrev pub summary_of : ColumnType → List Cell → Summary
summary_of t cs = record {
  contains_null = list_any is_null cs;
  contains_nan = None;
  lower = bound_of t (least cs);
  upper = bound_of t (greatest cs);
}

-- the value at a place of a tuple
abbrev pub cell_at : ℕ → List Cell → Cell
cell_at i tuple = unwrap_or (slice_get tuple i) Null

abbrev pub column_of : ℕ → List NewFile → List Cell
column_of i fs = map (λ (f : NewFile). cell_at i f.tuple) fs

-- the summaries of the fields from a place on
abbrev pub summaries_from : ℕ → List ColumnType → List NewFile → List Summary
summaries_from i [] fs = []
summaries_from i (t ∷ ts) fs = summary_of t (column_of i fs) ∷ summaries_from (suc i) ts fs

-- a uuid that is not null stands among the values of a field of this type
abbrev pub has_uuid : ColumnType → List Cell → Bool
has_uuid Uuid cs = list_any (λ c. not (is_null c)) cs
has_uuid t cs = false

-- it does in one of the fields from a place on
abbrev pub some_uuid : ℕ → List ColumnType → List NewFile → Bool
some_uuid i [] fs = false
some_uuid i (t ∷ ts) fs = has_uuid t (column_of i fs) || some_uuid (suc i) ts fs

-- The summaries of all fields. A summary without bounds says that all values are null, and a uuid has no bounds here:
-- so where one stands there are no summaries at all, and no reader passes over the manifest.
abbrev pub summaries : List ColumnType → List NewFile → Option (List Summary)
summaries ts fs = if some_uuid 0 ts fs then None else Some (summaries_from 0 ts fs)

-- ---- the row

-- the records of all files
abbrev pub records_in : List NewFile → ℤ
records_in [] = pos 0
records_in (f ∷ fs) = f.record_count +ℤ records_in fs

-- all files are added, and none of them was there before
abbrev pub new_counts : List NewFile → Counts
new_counts fs = record {
  added_files = Some (pos (length fs));
  existing_files = Some (pos 0);
  deleted_files = Some (pos 0);
  added_rows = Some (records_in fs);
  existing_rows = Some (pos 0);
  deleted_rows = Some (pos 0);
}

-- the row of a manifest of these files at a path, of so many bytes, which a commit of this sequence number adds
unfoldable pub new_row : Heading → List ℕ → ℤ → ℕ → List NewFile → Row
new_row h path size sequence_number fs = record {
  path = path;
  length = size;
  spec_id = h.spec.id;
  content = h.content;
  sequence_number = sequence_number;
  min_sequence_number = sequence_number;
  added_snapshot_id = h.snapshot_id;
  counts = new_counts fs;
  partitions = summaries h.types fs;
}
