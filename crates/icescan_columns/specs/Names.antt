-- The names that lead from the row to the columns of a schema, as a filter has them. A field is led to by the names of
-- the structs around it and by its own; an element, a key, a value, and what stands inside one, by none.
use Rattle.std.specs.Prelude.{ℕ, List, [], ◌∷◌, ◌++◌, Option, Some, None, option_and_then, option_map, slice_get}
use Rattle.ice_filter.specs.declared.predicate.Column as filter
use Rattle.ice_meta.specs.declared.schema.Column.{Column}

abbrev pub Names : Type 0
Names = filter.Column

-- the names of a struct, and that of a field in it
abbrev pub with_name : List ℕ → Names → Names
with_name name outer = record { first = outer.first; more = outer.more ++ name ∷ [] }

-- those that lead to the struct at a place, where they are known
abbrev pub at_place : List (Option Names) → ℕ → Option Names
at_place names place = option_and_then (λ found. found) (slice_get names place)

-- those that lead to a field of this name in the struct at a place, or in the row
abbrev pub names_at : List (Option Names) → Option ℕ → List ℕ → Option Names
names_at names None name = Some (record { first = name; more = [] })
names_at names (Some place) name = option_map (with_name name) (at_place names place)

-- those that lead to a column, where those of the columns before it are known
abbrev pub names_of : List (Option Names) → Column → Option Names
names_of names column = option_and_then (names_at names column.around) column.name

abbrev pub names_from : List (Option Names) → List Column → List (Option Names)
names_from names [] = names
names_from names (c ∷ cs) = names_from (names ++ names_of names c ∷ []) cs

-- those that lead to each of the columns, each of which stands behind the one that it is in
abbrev pub all_names : List Column → List (Option Names)
all_names columns = names_from [] columns
