-- The four groups of delete files, and the order in which each is looked up.
use Rattle.std.specs.Prelude.{ℕ, ℤ, Bool, not, ◌&&◌, List, Option, is_none, is_some, nat_le}
use Rattle.std.specs.declared.cmp.Ordering.{Ordering}
use Rattle.std.specs.declared.cmp.Ordering.TheVariants.{Equal}
use Rattle.std.specs.Cmp.Lexicographic.{slice_cmp}
use Rattle.std.specs.Option.{option_cmp}
use Rattle.std.specs.Ordering.{int_cmp, nat_cmp, ordering_then, is_lt, is_le, is_eq}
use Rattle.ice_value.specs.declared.cell.Cell.{Cell}
use Rattle.ice_value.specs.declared.file_content.FileContent.TheVariants.{PositionDeletes, EqualityDeletes}
use Rattle.ice_value.specs.Applying.{DeleteKey}
use Rattle.ice_value.specs.Cells.{tuple_cmp}
use Rattle.ice_deletes.specs.Found.{holds}
use Rattle.ice_deletes.specs.declared.group.Group.{Group}
use Rattle.ice_deletes.specs.declared.group.Group.TheVariants.{Positions, Referenced, Equalities, Everywhere}

-- the group has the file
abbrev pub is_in : Group → DeleteKey → Bool
is_in Positions d = holds PositionDeletes d && is_none d.referenced
is_in Referenced d = holds PositionDeletes d && is_some d.referenced
is_in Equalities d = holds EqualityDeletes d && not d.unpartitioned
is_in Everywhere d = holds EqualityDeletes d && d.unpartitioned

-- what delete files are sorted by, and sought by: the data file that they name, their partition, the sequence number
pub record SortKey : Type 0 where
  pub path : Option (List ℕ)
  pub spec_id : ℤ
  pub tuple : List Cell
  pub sequence_number : ℕ

abbrev pub sort_key : DeleteKey → SortKey
sort_key d = record {
  path = d.referenced;
  spec_id = d.spec_id;
  tuple = d.tuple;
  sequence_number = d.sequence_number;
}

-- the order of partitions
abbrev pub partition_cmp : SortKey → SortKey → Ordering
partition_cmp a b = ordering_then (int_cmp a.spec_id b.spec_id) (tuple_cmp a.tuple b.tuple)

-- the order of places in a group: files of one place reach the same data files, but for their sequence numbers
abbrev pub place_cmp : Group → SortKey → SortKey → Ordering
place_cmp Positions a b = partition_cmp a b
place_cmp Referenced a b = ordering_then (option_cmp (slice_cmp nat_cmp) a.path b.path) (partition_cmp a b)
place_cmp Equalities a b = partition_cmp a b
place_cmp Everywhere a b = Equal

-- by place, then by sequence number
abbrev pub key_cmp : Group → SortKey → SortKey → Ordering
key_cmp g a b = ordering_then (place_cmp g a b) (nat_cmp a.sequence_number b.sequence_number)

-- the file's place is the one that is sought, or comes before
abbrev pub is_up_to : Group → SortKey → DeleteKey → Bool
is_up_to g k d = is_le (place_cmp g (sort_key d) k)

-- it comes before, or is the one that is sought and the sequence number is smaller
abbrev pub is_older : Group → SortKey → DeleteKey → Bool
is_older g k d = is_lt (key_cmp g (sort_key d) k)

-- the file's place is the one that is sought, and the sequence number is at least the one that is sought
abbrev pub is_within : Group → SortKey → DeleteKey → Bool
is_within g k d = is_eq (place_cmp g (sort_key d) k) && nat_le k.sequence_number d.sequence_number
