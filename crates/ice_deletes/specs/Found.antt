-- The delete files of an index, by their numbers, and those that apply to a data file.
use Rattle.std.specs.Prelude.{ℕ, ℤ, Bool, true, false, not, List, ◌++◌, map, filter, Contains}
use Rattle.std.specs.List.{enumerate_from}
use Rattle.ice_value.specs.declared.cell.Cell.{Cell}
use Rattle.ice_value.specs.declared.file_content.FileContent.{FileContent}
use Rattle.ice_value.specs.declared.file_content.FileContent.TheVariants.{Data, PositionDeletes, EqualityDeletes}
use Rattle.ice_value.specs.Applying.{DataKey, DeleteKey, Applies}
use Rattle.ice_deletes.specs.declared.index.Hits.{Hits}

abbrev pub is_content : FileContent → FileContent → Bool
is_content Data Data = true
is_content PositionDeletes PositionDeletes = true
is_content EqualityDeletes EqualityDeletes = true
is_content _ _ = false

-- the file holds this
abbrev pub holds : FileContent → DeleteKey → Bool
holds content d = is_content content d.content

-- the delete files among these files, numbered by their places
abbrev pub numbered_deletes : List DeleteKey → List (ℕ × DeleteKey)
numbered_deletes files = filter (λ e. not (holds Data e.1)) (enumerate_from 0 files)

-- the numbers of the files that pass a test, in their order
abbrev pub numbers_where : (DeleteKey → Bool) → List (ℕ × DeleteKey) → List ℕ
numbers_where p files = map (λ e. e.0) (filter (λ e. p e.1) files)

-- the data file of this spec and tuple, with this sequence number, at this path
abbrev pub data_key : ℤ → List Cell → ℕ → List ℕ → DataKey
data_key spec_id tuple sequence_number path =
    record { spec_id = spec_id; tuple = tuple; sequence_number = sequence_number; path = path }

-- a file of this number applies to x
abbrev pub AppliesAt : List (ℕ × DeleteKey) → DataKey → ℕ → Type 0
AppliesAt files x number = (d : DeleteKey) × Contains files (number, d) × Applies x d

-- all numbers that are lent
abbrev pub lent : Hits → List ℕ
lent hits = hits.positions.now ++ hits.referenced.now ++ hits.equalities.now ++ hits.everywhere.now
