-- What a manifest's counts and bounds of a file's columns say of a filter (Apache Iceberg table spec v2,
-- "Scan Planning").
use Rattle.std.specs.Prelude.{◌≡◌, ℕ, ◌+◌, ℤ, pos, Bool, true, false, not, ◌&&◌, List, [], ◌∷◌, length, Option, None}
use Rattle.std.specs.Prelude.{Some, if◌then◌else◌, map, ◌⊎◌}
use Rattle.std.specs.List.{AllByRecursion}
use Rattle.std.specs.Ordering.{int_eq}
use Rattle.ice_value.specs.Columns.{count_of, bound_of}
use Rattle.ice_value.specs.declared.column_type.ColumnType.{ColumnType}
use Rattle.ice_value.specs.declared.cell.Cell.{Cell}
use Rattle.ice_value.specs.declared.file_bounds.FileBounds.{FileBounds}
use Rattle.ice_filter.specs.Rows.{Row, is_null}
use Rattle.ice_filter.specs.Trees.{Tree, truth, predicate, both, either, tree_of, meaning}
use Rattle.ice_filter.specs.declared.parts.Part.{Part}
use Rattle.ice_filter.specs.declared.bound.Test.{Test}
use Rattle.ice_filter.specs.declared.bound.Test.TheVariants.{NotAmong}
use Rattle.ice_filter.specs.declared.bound.BoundPredicate.{BoundPredicate}
use Rattle.ice_project.specs.Limits.{limit, in_bounds, LiesIn}
use Rattle.ice_project.specs.Tuples.{is_null_test}

abbrev pub is_unlike_test : Test → Bool
is_unlike_test (NotAmong vs) = true
is_unlike_test _ = false

-- both counts are there and equal
abbrev pub same_count : Option ℤ → Option ℤ → Bool
same_count (Some a) (Some b) = int_eq a b
same_count (Some a) None = false
same_count None b = false

-- all values of the column are null
abbrev pub is_all_null : FileBounds → ℤ → Bool
is_all_null file column = same_count (count_of column file.value_counts) (count_of column file.null_counts)

abbrev pub is_zero : Option ℤ → Bool
is_zero (Some n) = int_eq n (pos 0)
is_zero None = false

abbrev pub lower_limit : FileBounds → ColumnType → ℤ → Option Cell
lower_limit file t column = limit t (bound_of column file.lower_bounds)

abbrev pub upper_limit : FileBounds → ColumnType → ℤ → Option Cell
upper_limit file t column = limit t (bound_of column file.upper_bounds)

-- the file may have a value that meets the predicate
abbrev pub file_allows : FileBounds → BoundPredicate → Bool
file_allows file l =
    if is_unlike_test l.test then true
    else if is_null_test l.test then not (is_zero (count_of l.column file.null_counts))
    else not (is_all_null file l.column)
    && in_bounds l.test (lower_limit file l.column_type l.column) (upper_limit file l.column_type l.column)

-- the file may have a row that meets the filter
abbrev pub file_may : List (Part BoundPredicate) → FileBounds → Bool
file_may filter file = meaning (file_allows file) (tree_of filter)

-- how many of the cells are null
abbrev pub null_count : List Cell → ℕ
null_count [] = 0
null_count (c ∷ cs) = (if is_null c then 1 else 0) + null_count cs

-- the counts that are given are those of these cells, and each cell that isn't null lies within each bound that is read
pub record IsColumn (file : FileBounds) (t : ColumnType) (column : ℤ) (cells : List Cell) : Type 0 where
  pub counted : (n : ℤ) → count_of column file.value_counts ≡ Some n → n ≡ pos (length cells)
  pub nulls_counted : (n : ℤ) → count_of column file.null_counts ≡ Some n → n ≡ pos (null_count cells)
  pub bounded : AllByRecursion
      (λ (c : Cell). is_null c ≡ false → LiesIn (lower_limit file t column) (upper_limit file t column) c) cells

-- the filter has this predicate
abbrev pub HasPredicate : BoundPredicate → Tree BoundPredicate → Type 0
HasPredicate l (truth b) = ⊥
HasPredicate l (predicate m) = l ≡ m
HasPredicate l (both s t) = HasPredicate l s ⊎ HasPredicate l t
HasPredicate l (either s t) = HasPredicate l s ⊎ HasPredicate l t

-- the file's counts and bounds of each column that the filter asks for are those of the rows
abbrev pub AreCounted : FileBounds → List (Part BoundPredicate) → List Row → Type 0
AreCounted file filter rows =
    (l : BoundPredicate) → HasPredicate l (tree_of filter)
    → IsColumn file l.column_type l.column (map (λ (row : Row). row l.column) rows)
