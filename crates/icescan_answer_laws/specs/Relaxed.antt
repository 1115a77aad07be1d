-- What a relaxed request is about.
use Rattle.std.specs.Prelude.{List}
use Rattle.std.specs.List.{AllByRecursion}
use Rattle.ice_filter.specs.Rows as table
use Rattle.ice_filter.specs.declared.parts.Part.{Part}
use Rattle.ice_filter.specs.declared.predicate.Predicate.{Predicate}
use Rattle.ice_filter_relaxed.specs.Relaxing.{MayMeet}
use Rattle.ice_meta.specs.declared.schema.Schema.{Schema}

-- no row meets the filter, whatever the predicates that are not asked make of it
abbrev pub NoneMayMeet : Schema → List (Part Predicate) → List table.Row → Type 0
NoneMayMeet schema parts rows = AllByRecursion (λ row. MayMeet schema parts row → ⊥) rows
