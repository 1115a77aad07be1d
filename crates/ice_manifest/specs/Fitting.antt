-- What the types of a row's and a file's numbers and texts promise: that they can be written.
use Rattle.std.specs.Prelude.{◌<◌, ◌≤◌, ◌^◌, ℕ, List, length, IfSome}
use Rattle.std.specs.List.{AllByRecursion}
use Rattle.std.specs.Str.{IsUtf8}
use Rattle.avro_file.specs.Blocks.{max_items}
use Rattle.ice_value.specs.declared.cell.Cell.{Cell}
use Rattle.ice_value.specs.declared.cell.Cell.TheVariants as cell
use Rattle.ice_value.specs.declared.file_bounds.Summary.{Summary}
use Rattle.ice_meta.specs.Committing.{IsLong}
use Rattle.ice_manifest_reading.specs.declared.counts.Counts.{Counts}
use Rattle.ice_manifest_reading.specs.declared.row.Row.{Row}
use Rattle.ice_manifest.specs.declared.new_file.NewFile.{NewFile}
use Rattle.ice_manifest.specs.Adding.{IsId}

-- bytes that lie in memory
abbrev pub IsShort : List ℕ → Type 0
IsShort bytes = length bytes < 2 ^ 63

pub record IsText (s : List ℕ) : Type 0 where
  pub utf8 : IsUtf8 s
  pub short : IsShort s

pub record SummaryFits (s : Summary) : Type 0 where
  pub lower : IfSome s.lower IsShort
  pub upper : IfSome s.upper IsShort

pub record CountsFit (c : Counts) : Type 0 where
  pub added_files : IfSome c.added_files IsId
  pub existing_files : IfSome c.existing_files IsId
  pub deleted_files : IfSome c.deleted_files IsId
  pub added_rows : IfSome c.added_rows IsLong
  pub existing_rows : IfSome c.existing_rows IsLong
  pub deleted_rows : IfSome c.deleted_rows IsLong

pub record RowFits (r : Row) : Type 0 where
  pub path : IsText r.path
  pub length : IsLong r.length
  pub spec_id : IsId r.spec_id
  pub sequence_number : r.sequence_number < 2 ^ 63
  pub min_sequence_number : r.min_sequence_number < 2 ^ 63
  pub added_snapshot_id : IsLong r.added_snapshot_id
  pub counts : CountsFit r.counts
  pub partitions : IfSome r.partitions (AllByRecursion SummaryFits)

abbrev pub CellFits : Cell → Type 0
CellFits (cell.Whole z) = IsLong z
CellFits (cell.Text s) = IsText s
CellFits (cell.Bytes bs) = IsShort bs
CellFits c = Unit {0}

pub record FileFits (f : NewFile) : Type 0 where
  pub path : IsText f.path
  pub format : IsText f.format
  pub tuple : AllByRecursion CellFits f.tuple
  pub record_count : IsLong f.record_count
  pub file_size : IsLong f.file_size
  pub equality_ids : AllByRecursion IsId f.equality_ids
  pub referenced : IfSome f.referenced IsText

-- ---- what is asked

-- a row that is read again where it was written: its path is no longer than those that are read, and it has no more
-- summaries than an object of a file may have items
pub record IsReadable (r : Row) : Type 0 where
  pub path : length r.path ≤ 65535
  pub partitions : IfSome r.partitions (λ summaries. length summaries ≤ max_items)
