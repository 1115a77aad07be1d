-- The predicates of a filter, and the tests of partition values that they come to, each alone.
use Rattle.std.specs.Prelude.{ℕ, ◌+◌, List, [], ◌∷◌, map, Option, option_map, slice_get}
use Rattle.std.specs.List.{flat_map}
use Rattle.ice_filter.specs.declared.bound.BoundPredicate.{BoundPredicate}
use Rattle.ice_filter.specs.declared.parts.Part.{Part}
use Rattle.ice_filter.specs.declared.parts.Part.TheVariants.{True, False, Predicate, And, Or}
use Rattle.ice_meta.specs.declared.spec.PartitionField.{PartitionField}
use Rattle.ice_meta.specs.declared.spec.Spec.{Spec}
use Rattle.ice_project.specs.declared.part_filter.FieldTest.{FieldTest}
use Rattle.ice_project.specs.declared.part_filter.PartFilter.{PartFilter}
use Rattle.icescan_explain.specs.declared.lone.LonePredicate.{LonePredicate}
use Rattle.icescan_explain.specs.declared.lone.LoneTest.{LoneTest}

-- the filter that has one predicate alone
abbrev pub only : {L : Type 0} → L → List (Part L)
only l = Predicate l ∷ []

-- the predicates of a filter, in its order
abbrev pub predicate_in : {L : Type 0} → Part L → List L
predicate_in True = []
predicate_in False = []
predicate_in (Predicate l) = l ∷ []
predicate_in And = []
predicate_in Or = []

abbrev pub predicates : {L : Type 0} → List (Part L) → List L
predicates parts = flat_map predicate_in parts

-- ---- tests of partition values

-- the filter over the values of n partition fields that has one test alone
abbrev pub only_test : ℕ → FieldTest → PartFilter
only_test n test = record { fields = n; parts = only (test ∷ []) }

-- the names of partition fields
abbrev pub names_of : List PartitionField → List (List ℕ)
names_of fields = map (λ (f : PartitionField). f.name) fields

-- the name of the partition field at a position
abbrev pub field_name : Spec → ℕ → Option (List ℕ)
field_name spec at = option_map (λ (f : PartitionField). f.name) (slice_get spec.fields at)

abbrev pub lone_test : Spec → ℕ → FieldTest → LoneTest
lone_test spec n test = record { field = field_name spec test.position; part = only_test n test }

-- the tests of a part of a projection: those of a predicate have to be met together
abbrev pub tests_in : Spec → ℕ → Part (List FieldTest) → List LoneTest
tests_in spec n True = []
tests_in spec n False = []
tests_in spec n (Predicate tests) = map (lone_test spec n) tests
tests_in spec n And = []
tests_in spec n Or = []

-- the tests of a projection through a spec, predicate by predicate
abbrev pub lone_tests : Spec → PartFilter → List LoneTest
lone_tests spec part = flat_map (tests_in spec part.fields) part.parts

-- ---- predicates

-- a predicate, of whose column the name stands at a place
abbrev pub lone_predicate : List (List ℕ) → ℕ → BoundPredicate → LonePredicate
lone_predicate columns at l = record { column = slice_get columns at; filter = record { parts = only l } }

-- the predicates of a filter, of whose first the column's name stands at a place, and of the next one at the next
abbrev pub lone_predicates : List (List ℕ) → ℕ → List (Part BoundPredicate) → List LonePredicate
lone_predicates columns at [] = []
lone_predicates columns at (True ∷ parts) = lone_predicates columns at parts
lone_predicates columns at (False ∷ parts) = lone_predicates columns at parts
lone_predicates columns at (Predicate l ∷ parts) = lone_predicate columns at l ∷ lone_predicates columns (at + 1) parts
lone_predicates columns at (And ∷ parts) = lone_predicates columns at parts
lone_predicates columns at (Or ∷ parts) = lone_predicates columns at parts
