-- What a data file says of its columns: maps from column ids, each a list of pairs, in the file's order. Apache Iceberg
-- table spec v2, "Manifests" (value_counts, null_value_counts, lower_bounds, upper_bounds) and "Appendix A: Avro" (maps
-- whose keys are no strings).
use Rattle.std.specs.Prelude.{ℕ, ℤ, List, [], Result, Ok}
use Rattle.contract_words.specs.Outcome.{◌>>=◌}
use Rattle.avro_file.specs.Picking.{Typed, pick}
use Rattle.ice_value.specs.Columns.{ColumnCount, ColumnBound}
use Rattle.ice_value.specs.declared.file_bounds.FileBounds.{FileBounds}
use Rattle.ice_manifest_fields.specs.declared.fault.FieldFault.{FieldFault}
use Rattle.ice_manifest_fields.specs.declared.columns.ColumnMap.{ColumnMap}
use Rattle.ice_manifest_fields.specs.ColumnMaps.{value_counts, null_value_counts, lower_bounds, upper_bounds}
use Rattle.ice_manifest_fields.specs.Each.{each}
use Rattle.ice_manifest_fields.specs.Fields.{at, there, asked, binary_of, items_of, record_of, int_at, long_at}

-- ---- counts

-- the count that a pair says
unfoldable pub count_in : ColumnMap → Typed → Result ColumnCount FieldFault
count_in m x = do
  column ← int_at m.key x
  count ← long_at m.said x
  Ok (record { column = column; count = count })

-- an item of a map of counts; one that is null has no key
unfoldable pub count_of : ColumnMap → Typed → Result ColumnCount FieldFault
count_of m y = asked m.key (record_of (there (pick [] y))) >>= count_in m

-- the counts of the map at a field; none where there is no map
unfoldable pub counts_at : ColumnMap → Typed → Result (List ColumnCount) FieldFault
counts_at m x = each (count_of m) (items_of (there (at m.id x)))

-- ---- bounds

abbrev pub bytes_at : ℤ → Typed → Result (List ℕ) FieldFault
bytes_at id x = asked id (binary_of (there (at id x)))

unfoldable pub bound_in : ColumnMap → Typed → Result ColumnBound FieldFault
bound_in m x = do
  column ← int_at m.key x
  bytes ← bytes_at m.said x
  Ok (record { column = column; bytes = bytes })

unfoldable pub bound_of : ColumnMap → Typed → Result ColumnBound FieldFault
bound_of m y = asked m.key (record_of (there (pick [] y))) >>= bound_in m

unfoldable pub bounds_at : ColumnMap → Typed → Result (List ColumnBound) FieldFault
bounds_at m x = each (bound_of m) (items_of (there (at m.id x)))

-- ---- all four

unfoldable pub columns_of : Typed → Result FileBounds FieldFault
columns_of x = do
  values ← counts_at value_counts x
  nulls ← counts_at null_value_counts x
  lower ← bounds_at lower_bounds x
  upper ← bounds_at upper_bounds x
  Ok (record { value_counts = values; null_counts = nulls; lower_bounds = lower; upper_bounds = upper })
