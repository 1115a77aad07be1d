-- Which delete files apply to a data file: Apache Iceberg table spec, version 2, "Scan Planning". Two files are of one
-- partition where they have the same spec and the same partition values; nulls equal each other.
use Rattle.std.specs.Prelude.{◌≡◌, ℕ, ◌<◌, ◌≤◌, Bool, true, false, ◌&&◌, ◌||◌, nat_lt, nat_le, List, ℤ, ◌⊎◌}
use Rattle.std.specs.Prelude.{Option, Some, None, is_none}
use Rattle.std.specs.Option.{option_eq}
use Rattle.std.specs.Ordering.{int_eq}
use Rattle.std.specs.Str.{bytes_eq}
use Rattle.ice_value.specs.declared.cell.Cell.{Cell}
use Rattle.ice_value.specs.declared.file_content.FileContent.{FileContent}
use Rattle.ice_value.specs.declared.file_content.FileContent.TheVariants.{Data, PositionDeletes, EqualityDeletes}
use Rattle.ice_value.specs.Cells.{same_tuple}

-- what the rules ask of a data file
pub record DataKey : Type 0 where
  pub spec_id : ℤ
  pub tuple : List Cell
  pub sequence_number : ℕ
  pub path : List ℕ

-- what the rules ask of a delete file: referenced is the path of the one data file that it names, if it names one
pub record DeleteKey : Type 0 where
  pub content : FileContent
  pub spec_id : ℤ
  pub unpartitioned : Bool
  pub tuple : List Cell
  pub sequence_number : ℕ
  pub referenced : Option (List ℕ)

-- both files are of one spec and have the same partition values
abbrev pub SamePartition : DataKey → DeleteKey → Type 0
SamePartition x d = (x.spec_id ≡ d.spec_id) × (x.tuple ≡ d.tuple)

-- the delete file names no data file, or this one
abbrev pub Names : DataKey → DeleteKey → Type 0
Names x d = (d.referenced ≡ None) ⊎ (d.referenced ≡ Some x.path)

-- A position delete file applies to data files of its partition that are not newer, and where it names one, to that one
-- alone. An equality delete file applies to data files that are strictly older, of its partition, or of all where its
-- own spec is unpartitioned.
abbrev pub AppliesAs : FileContent → DataKey → DeleteKey → Type 0
AppliesAs Data x d = ⊥
AppliesAs PositionDeletes x d = (x.sequence_number ≤ d.sequence_number) × SamePartition x d × Names x d
AppliesAs EqualityDeletes x d = (x.sequence_number < d.sequence_number) × (SamePartition x d ⊎ (d.unpartitioned ≡ true))

-- the delete file d applies to the data file x
abbrev pub Applies : DataKey → DeleteKey → Type 0
Applies x d = AppliesAs d.content x d

-- the same as a test
abbrev pub same_partition : DataKey → DeleteKey → Bool
same_partition x d = int_eq x.spec_id d.spec_id && same_tuple x.tuple d.tuple

abbrev pub names : DataKey → DeleteKey → Bool
names x d = is_none d.referenced || option_eq bytes_eq d.referenced (Some x.path)

abbrev pub applies_as : FileContent → DataKey → DeleteKey → Bool
applies_as Data x d = false
applies_as PositionDeletes x d =
    nat_le x.sequence_number d.sequence_number && same_partition x d && names x d
applies_as EqualityDeletes x d = nat_lt x.sequence_number d.sequence_number && (same_partition x d || d.unpartitioned)

abbrev pub applies : DataKey → DeleteKey → Bool
applies x d = applies_as d.content x d
