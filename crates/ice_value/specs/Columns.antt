-- The metrics of a file, column by column (Apache Iceberg table spec v2, "Manifests": value_counts,
-- null_value_counts, lower_bounds and upper_bounds are maps from column id).
use Rattle.std.specs.Prelude.{ℕ, ℤ, List, Option, find, reverse}
use Rattle.std.specs.Option.{option_map}
use Rattle.std.specs.Ordering.{int_eq}

-- a number of values of a column
pub record ColumnCount : Type 0 where
  pub column : ℤ
  pub count : ℤ

-- a bound of a column: a single value in bytes
pub record ColumnBound : Type 0 where
  pub column : ℤ
  pub bytes : List ℕ

-- the column's count; of several the last counts
abbrev pub count_of : ℤ → List ColumnCount → Option ℤ
count_of column counts =
    option_map (λ (c : ColumnCount). c.count) (find (λ (c : ColumnCount). int_eq c.column column) (reverse counts))

-- the column's bound; of several the last counts
abbrev pub bound_of : ℤ → List ColumnBound → Option (List ℕ)
bound_of column bounds =
    option_map (λ (b : ColumnBound). b.bytes) (find (λ (b : ColumnBound). int_eq b.column column) (reverse bounds))
