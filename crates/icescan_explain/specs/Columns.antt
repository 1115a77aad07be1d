-- The names of the columns of a filter's predicates, as the filter names them. (46 is the dot.)
use Rattle.std.specs.Prelude.{ℕ, List, [], ◌∷◌, ◌++◌, map, Option, Some, None, Result, Ok, Err}
use Rattle.std.specs.List.{flat_map}
use Rattle.ice_filter.specs.Parsing.{parsed}
use Rattle.ice_filter.specs.declared.fault.FilterFault.{FilterFault}
use Rattle.ice_filter.specs.declared.predicate.Column.{Column}
use Rattle.ice_filter.specs.declared.predicate.Predicate.{Predicate}
use Rattle.ice_filter.specs.declared.parts.Part.{Part}
use Rattle.icescan_explain.specs.Alone.{predicates}

-- the names that lead to a column, with dots between them
abbrev pub column_name : Column → List ℕ
column_name c = c.first ++ flat_map (λ name. 46 ∷ name) c.more

abbrev pub column_names : List (Part Predicate) → List (List ℕ)
column_names parts = map (λ (l : Predicate). column_name l.column) (predicates parts)

-- of a text that is no filter there are none
abbrev pub names_in : Result (List (Part Predicate)) FilterFault → List (List ℕ)
names_in (Ok parts) = column_names parts
names_in (Err fault) = []

abbrev pub columns_in : Option (List ℕ) → List (List ℕ)
columns_in None = []
columns_in (Some text) = names_in (parsed text)
