-- The first predicate of a filter, or test of its projection, that alone says no.
use Rattle.std.specs.Prelude.{ℕ, Bool, not, List, Option}
use Rattle.std.specs.List.{find}
use Rattle.std.specs.Option.{option_and_then}
use Rattle.ice_value.specs.declared.file_bounds.FileBounds.{FileBounds}
use Rattle.ice_project.specs.Files.{file_may}
use Rattle.ice_project.specs.declared.part_filter.PartFilter.{PartFilter}
use Rattle.icescan_explain.specs.declared.lone.LonePredicate.{LonePredicate}
use Rattle.icescan_explain.specs.declared.lone.LoneTest.{LoneTest}

-- the first of these to which the answer is no
abbrev pub first_no : {X : Type 0} → (X → Bool) → List X → Option X
first_no says xs = find (λ x. not (says x)) xs

-- the partition field of the first test to which the answer is no
abbrev pub blamed_field : List LoneTest → (PartFilter → Bool) → Option (List ℕ)
blamed_field lone says = option_and_then (λ (x : LoneTest). x.field) (first_no (λ (x : LoneTest). says x.part) lone)

-- the predicate allows a file with these counts and bounds
abbrev pub predicate_allows : FileBounds → LonePredicate → Bool
predicate_allows bounds x = file_may x.filter.parts bounds

-- the column of the first predicate that does not
abbrev pub blamed_column : List LonePredicate → FileBounds → Option (List ℕ)
blamed_column predicates bounds = option_and_then (λ (x : LonePredicate). x.column)
    (first_no (predicate_allows bounds) predicates)
