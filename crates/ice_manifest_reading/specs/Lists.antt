-- The rows of a manifest list, or its first fault. Apache Iceberg table spec v2, "Manifest Lists".
use Rattle.std.specs.Prelude.{ℕ, ℤ, pos, List, [], ◌∷◌, length, Bool, true, false, ◌&&◌, Option, Some, None, Result, Ok}
use Rattle.std.specs.Prelude.{Err, nat_le, ◌==◌, if◌then◌else◌}
use Rattle.std.specs.declared.cmp.Ordering.{Ordering}
use Rattle.std.specs.Ordering.{int_eq, nat_cmp, is_lt}
use Rattle.std.specs.Option.{option_eq}
use Rattle.std.specs.Cmp.Lexicographic.{slice_cmp, pointwise}
use Rattle.std.specs.Str.{bytes_eq}
use Rattle.std.specs.List.{dedup}
use Rattle.contract_words.specs.Outcome.{◌>>=◌}
use Rattle.contract_words.specs.Sorting.{sorted}
use Rattle.avro_schema.specs.Tree.{structure, Fields}
use Rattle.avro_file.specs.Value.{Value}
use Rattle.avro_file.specs.Ahead.{Ahead, running, refusing}
use Rattle.avro_file.specs.Files.{opened_at}
use Rattle.avro_file.specs.Picking.{Typed, pick}
use Rattle.ice_value.specs.declared.file_bounds.Summary.{Summary}
use Rattle.ice_value.specs.Summaries.{same_summary}
use Rattle.ice_manifest_fields.specs.declared.fault.FieldFault.{FieldFault}
use Rattle.ice_manifest_fields.specs.declared.fault.FieldFault.TheVariants.{BadContent}
use Rattle.ice_manifest_fields.specs.declared.fault.ListFault.{ListFault}
use Rattle.ice_manifest_fields.specs.declared.fault.ListFault.TheVariants.{ManifestTwice, TooManyRows}
use Rattle.ice_manifest_reading.specs.declared.counts.Counts.{Counts}
use Rattle.ice_manifest_reading.specs.declared.row.Row.{Row}
use Rattle.ice_manifest_reading.specs.declared.row.ManifestContent.{ManifestContent}
use Rattle.ice_manifest_reading.specs.declared.row.ManifestContent.TheVariants.{Data, Deletes}
use Rattle.ice_manifest_fields.specs.Each.{each}
use Rattle.ice_manifest_fields.specs.Naming.{in_list, contained, told, ended}
use Rattle.ice_manifest_fields.specs.Schemas.{fields_in, row_fields}
use Rattle.ice_manifest_fields.specs.Fields.{at, there, items_of, asked, record_of, long_at, int_at, int_or_zero}
use Rattle.ice_manifest_fields.specs.Fields.{number_or_zero, path_at}
use Rattle.ice_manifest_fields.specs.Fields.{truth_at, optional_long, optional_int, optional_truth, optional_binary}

-- ---- a row

-- 0 is data, 1 is deletes
abbrev pub row_content : ℤ → Result ManifestContent FieldFault
row_content z = if int_eq z (pos 0) then Ok Data else (if int_eq z (pos 1) then Ok Deletes else Err BadContent)

unfoldable pub content_at : Typed → Result ManifestContent FieldFault
content_at x = int_or_zero (pos 517) x >>= row_content

-- the counts of a row; null is none
unfoldable pub counts_at : Typed → Result Counts FieldFault
counts_at x = do
  added ← optional_int (pos 504) x
  existing ← optional_int (pos 505) x
  deleted ← optional_int (pos 506) x
  Ok (record {
    added_files = added;
    existing_files = existing;
    deleted_files = deleted;
    added_rows = optional_long (pos 512) x;
    existing_rows = optional_long (pos 513) x;
    deleted_rows = optional_long (pos 514) x;
  })

-- the summary of one partition field
unfoldable pub summary_in : Typed → Result Summary FieldFault
summary_in x = do
  contains_null ← truth_at (pos 509) x
  Ok (record {
    contains_null = contains_null;
    contains_nan = optional_truth (pos 518) x;
    lower = optional_binary (pos 510) x;
    upper = optional_binary (pos 511) x;
  })

-- an item of the list of summaries
unfoldable pub summary_of : Typed → Result Summary FieldFault
summary_of y = asked (pos 508) (record_of (there (pick [] y))) >>= summary_in

abbrev pub summaries_in : Option Typed → Result (Option (List Summary)) FieldFault
summaries_in None = Ok None
summaries_in (Some y) = each summary_of (items_of (Some y)) >>= λ summaries. Ok (Some summaries)

-- the row that an object says
unfoldable pub row_of : Typed → Result Row FieldFault
row_of x = do
  path ← path_at (pos 500) x
  length ← long_at (pos 501) x
  spec ← int_at (pos 502) x
  content ← content_at x
  sequence ← number_or_zero (pos 515) x
  least ← number_or_zero (pos 516) x
  snapshot ← long_at (pos 503) x
  counts ← counts_at x
  partitions ← summaries_in (there (at (pos 507) x))
  Ok (record {
    path = path;
    length = length;
    spec_id = spec;
    content = content;
    sequence_number = sequence;
    min_sequence_number = least;
    added_snapshot_id = snapshot;
    counts = counts;
    partitions = partitions;
  })

-- ---- all rows

-- the row of an object in a file of these fields
abbrev pub says_row : Fields → Value → Result Row ListFault
says_row fs v = told in_list (row_of (structure fs, v))

-- the rows of the objects that a file holds; or the first fault, which the file's end may be
unfoldable pub rows_ahead : Fields → Ahead → Result (List Row) ListFault
rows_ahead fs (running vs ending) = each (says_row fs) vs >>= ended in_list ending
rows_ahead fs (refusing f) = Err (in_list.of_container f)

-- ---- each row once, in the order of their paths

-- by the bytes of their paths
abbrev pub path_order : Row → Row → Ordering
path_order r s = slice_cmp nat_cmp r.path s.path

abbrev pub path_before : Row → Row → Bool
path_before r s = is_lt (path_order r s)

abbrev pub same_content : ManifestContent → ManifestContent → Bool
same_content Data Data = true
same_content Deletes Deletes = true
same_content x y = false

abbrev pub same_counts : Counts → Counts → Bool
same_counts a b =
    option_eq int_eq a.added_files b.added_files && (option_eq int_eq a.existing_files b.existing_files
    && (option_eq int_eq a.deleted_files b.deleted_files && (option_eq int_eq a.added_rows b.added_rows
    && (option_eq int_eq a.existing_rows b.existing_rows && option_eq int_eq a.deleted_rows b.deleted_rows))))

-- rows that agree in every field
unfoldable pub same_row : Row → Row → Bool
same_row r s =
    bytes_eq r.path s.path && (int_eq r.length s.length && (int_eq r.spec_id s.spec_id
    && (same_content r.content s.content && ((r.sequence_number == s.sequence_number)
    && ((r.min_sequence_number == s.min_sequence_number)
    && (int_eq r.added_snapshot_id s.added_snapshot_id && (same_counts r.counts s.counts
    && option_eq (pointwise same_summary) r.partitions s.partitions)))))))

-- the path of two rows of which one stands right behind the other
unfoldable pub twice_after : Row → List Row → Option (List ℕ)
twice_after r [] = None
twice_after r (s ∷ rows) = if bytes_eq s.path r.path then Some s.path else twice_after s rows

abbrev pub path_twice : List Row → Option (List ℕ)
path_twice [] = None
path_twice (r ∷ rows) = twice_after r rows

-- Rows in the order of their paths, of which no two are equal: no path is there twice, and there are few.
abbrev pub unless_twice : Option (List ℕ) → List Row → Result (List Row) ListFault
unless_twice (Some path) rows = Err (ManifestTwice path)
unless_twice None rows = if nat_le (length rows) 65536 then Ok rows else Err TooManyRows

abbrev pub checked : List Row → Result (List Row) ListFault
checked rows = unless_twice (path_twice rows) rows

-- equal rows once, in the order of the bytes of their paths
abbrev pub in_order : List Row → List Row
in_order rows = dedup same_row (sorted path_before rows)

-- the rows of a file's bytes
unfoldable pub rows_of : List ℕ → Result (List Row) ListFault
rows_of bytes = do
  file ← contained in_list (opened_at bytes)
  fits ← told in_list (row_fields (fields_in file.schema))
  rows ← rows_ahead (fields_in file.schema) file.ahead
  checked (in_order rows)
