-- What a manifest says of a column, looked up, and the maps that say it.
use Rattle.std.specs.Prelude.{◌≡◌, ◌⊎◌, ◌<◌, ℕ, ℤ, pos, Bool, true, false, List, [], None, length, get_or}
use Rattle.std.specs.Option.{option_copied}
use Rattle.ice_value.specs.Columns.{bound_of, count_of}
use Rattle.ice_value.specs.Pairs.{bounds_said, counts_said}
use Rattle.ice_value.specs.declared.column_type.ColumnType.{ColumnType}
use Rattle.ice_value.specs.declared.column_type.ColumnType.TheVariants.{Binary, Fixed, String}
use Rattle.ice_value.specs.declared.file_bounds.FileBounds.{FileBounds}
use Rattle.icescan_audit_findings.specs.declared.columns.ColumnSaid.{ColumnSaid}
use Rattle.icescan_audit_findings.specs.declared.columns.RisingMaps.{RisingMaps}
use Rattle.icescan_audit_findings.specs.declared.columns.FileSaid.{FileSaid}

-- the manifest says this of the column
pub record IsSaidOf (file : FileBounds) (column : ℤ) (said : ColumnSaid) : Type 0 where
  pub values : said.value_count ≡ count_of column file.value_counts
  pub nulls : said.null_count ≡ count_of column file.null_counts
  pub lower : option_copied said.lower_bound ≡ bound_of column file.lower_bounds
  pub upper : option_copied said.upper_bound ≡ bound_of column file.upper_bounds

-- it says this of the columns of these ids, at their places
pub record AreSaidOf (file : FileBounds) (ids : List ℤ) (said : FileSaid) : Type 0 where
  pub values_at : length said.value_counts.items ≡ length ids
  pub nulls_at : length said.null_counts.items ≡ length ids
  pub lower_at : length said.lower_bounds.items ≡ length ids
  pub upper_at : length said.upper_bounds.items ≡ length ids
  pub values : (k : ℕ) → k < length ids → get_or said.value_counts.items k None
      ≡ count_of (get_or ids k (pos 0)) file.value_counts
  pub nulls : (k : ℕ) → k < length ids → get_or said.null_counts.items k None
      ≡ count_of (get_or ids k (pos 0)) file.null_counts
  pub lower : (k : ℕ) → k < length ids → option_copied (get_or said.lower_bounds.items k None)
      ≡ bound_of (get_or ids k (pos 0)) file.lower_bounds
  pub upper : (k : ℕ) → k < length ids → option_copied (get_or said.upper_bounds.items k None)
      ≡ bound_of (get_or ids k (pos 0)) file.upper_bounds

-- these are the pairs of its maps
pub record AreMapsOf (file : FileBounds) (maps : RisingMaps) : Type 0 where
  pub values : counts_said maps.value_counts.pairs.now ≡ file.value_counts
  pub nulls : counts_said maps.null_counts.pairs.now ≡ file.null_counts
  pub lower : bounds_said maps.lower_bounds.pairs.now ≡ file.lower_bounds
  pub upper : bounds_said maps.upper_bounds.pairs.now ≡ file.upper_bounds

-- it says no bounds of one of the two kinds, and no counts
pub record SaysLittle (file : FileBounds) : Type 0 where
  pub bounds : (file.lower_bounds ≡ []) ⊎ (file.upper_bounds ≡ [])
  pub values : file.value_counts ≡ []
  pub nulls : file.null_counts ≡ []

-- values of the type are texts or byte strings, which stand in the order of the bytes of their bounds
abbrev pub is_of_bytes : ColumnType → Bool
is_of_bytes String = true
is_of_bytes (Fixed size) = true
is_of_bytes Binary = true
is_of_bytes _ = false
