-- Columns with what is said of them, as pairs.
use Rattle.std.specs.Prelude.{ℕ, ℤ, List, map, Option, option_map, find, reverse}
use Rattle.std.specs.Ordering.{int_eq}
use denote.Ref.{Bor}
use Rattle.ice_value.specs.declared.columns.Pairs.{Pairs}
use Rattle.ice_value.specs.declared.columns.Pairs.TheVariants.{Lent, Made}
use Rattle.ice_value.specs.Columns.{ColumnCount, ColumnBound}

abbrev pub pairs_in : {T : Type 0} → Pairs T → List (ℤ × T)
pairs_in (Lent lent) = lent.now
pairs_in (Made made) = made.items

-- what is said of the column; of several the last counts
abbrev pub last_of : {T : Type 0} → ℤ → List (ℤ × T) → Option T
last_of {T} column pairs = option_map (λ (p : ℤ × T). p.1) (find (λ (p : ℤ × T). int_eq p.0 column) (reverse pairs))

-- the count that a pair says, and those that pairs say
abbrev pub count_said : ℤ × ℤ → ColumnCount
count_said p = record { column = p.0; count = p.1 }

abbrev pub counts_said : List (ℤ × ℤ) → List ColumnCount
counts_said pairs = map count_said pairs

-- the bound that a pair says, and those that pairs say
abbrev pub bound_said : ℤ × Bor (List ℕ) → ColumnBound
bound_said p = record { column = p.0; bytes = p.1.now }

abbrev pub bounds_said : List (ℤ × Bor (List ℕ)) → List ColumnBound
bounds_said pairs = map bound_said pairs
