-- What a filter means on a row.
use Rattle.std.specs.Prelude.{ℕ, ℤ, Bool, true, false, not, ◌&&◌, List, nat_eq}
use Rattle.std.specs.List.{list_any, starts_with}
use Rattle.std.specs.Ordering.{is_lt, is_le, is_gt, is_ge, is_eq, is_some_and}
use Rattle.ice_value.specs.Cells.{order}
use Rattle.ice_value.specs.declared.cell.Cell.{Cell}
use Rattle.ice_value.specs.declared.cell.Cell.TheVariants as cells
use Rattle.ice_filter.specs.declared.parts.Part.{Part}
use Rattle.ice_filter.specs.declared.bound.Test.{Test}
use Rattle.ice_filter.specs.declared.bound.Test.TheVariants.{Less, AtMost, More, AtLeast, Among, NotAmong, IsNull}
use Rattle.ice_filter.specs.declared.bound.Test.TheVariants.{IsPresent, StartsWith}
use Rattle.ice_filter.specs.declared.bound.BoundPredicate.{BoundPredicate}
use Rattle.ice_filter.specs.Trees.{tree_of, meaning}

-- A row gives each column's id its cell; of a column that the row hasn't the cell is null.
abbrev pub Row : Type 0
Row = ℤ → Cell

abbrev pub is_null : Cell → Bool
is_null cells.Null = true
is_null _ = false

-- the cells are one value; null equals nothing
abbrev pub equals : Cell → Cell → Bool
equals c v = is_some_and is_eq (order c v)

-- the cell is a text that starts with these bytes
abbrev pub begins : Cell → List ℕ → Bool
begins (cells.Text text) s = starts_with nat_eq text s
begins _ s = false

-- What a test says of a cell. A comparison, `in`, `not in` and `starts with` are false on null.
abbrev pub holds : Test → Cell → Bool
holds (Less v) c = is_some_and is_lt (order c v)
holds (AtMost v) c = is_some_and is_le (order c v)
holds (More v) c = is_some_and is_gt (order c v)
holds (AtLeast v) c = is_some_and is_ge (order c v)
holds (Among vs) c = list_any (equals c) vs
holds (NotAmong vs) c = not (is_null c) && not (list_any (equals c) vs)
holds IsNull c = is_null c
holds IsPresent c = not (is_null c)
holds (StartsWith s) c = begins c s

-- the predicate's test on the row's cell
abbrev pub predicate_holds : Row → BoundPredicate → Bool
predicate_holds row l = holds l.test (row l.column)

-- the row meets the filter
abbrev pub row_meets : List (Part BoundPredicate) → Row → Bool
row_meets filter row = meaning (predicate_holds row) (tree_of filter)
