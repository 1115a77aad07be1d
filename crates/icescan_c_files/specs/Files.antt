-- What C is told of a plan's files.
use Rattle.std.specs.Prelude.{◌≡◌, ℕ, length, Option, Some, None}
use Rattle.ice_manifest_reading.specs.declared.entry.Entry.{Entry}
use Rattle.ice_value.specs.declared.file_format.FileFormat.{FileFormat}
use Rattle.ice_value.specs.declared.file_format.FileFormat.TheVariants.{Avro, Orc, Parquet}
use Rattle.icescan_c_files.specs.Lent.{AreIdsLent, AreLent}
use Rattle.icescan_c_files.specs.declared.file.File.{File}

-- the number of a format that is known
abbrev pub number_of_format : Option FileFormat → ℕ
number_of_format None = 0
number_of_format (Some Avro) = 1
number_of_format (Some Orc) = 2
number_of_format (Some Parquet) = 3

-- a sequence number, or the largest number of 64 bits, which is none
abbrev pub number_or_none : Option ℕ → ℕ
number_or_none (Some number) = number
number_or_none None = 18_446_744_073_709_551_615

-- the path, the ids and the numbers of a file at a place, to which so many delete files apply
pub record IsFileOf (entry : Entry) (number positions equalities : ℕ) (file : File) : Type 0 where
  pub path : AreLent file.path entry.file.path
  pub ids : AreIdsLent file.equality_ids entry.file.equality_ids
  pub sequence : file.sequence_number ≡ entry.sequence_number
  pub rows : file.record_count ≡ entry.file.record_count
  pub size : file.file_size ≡ entry.file.file_size
  pub spec : file.spec_id ≡ entry.spec_id
  pub position_deletes : file.positions ≡ positions
  pub equality_deletes : file.equalities ≡ equalities
  pub format : file.format ≡ number_of_format entry.file.format
  pub place : file.number ≡ number
  pub partition : file.values ≡ length entry.file.tuple
  pub added : file.file_sequence_number ≡ number_or_none entry.file_sequence_number
