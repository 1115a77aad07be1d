-- A filter and its projections through a table's partition specs, as a whole and each predicate alone.
use Rattle.std.specs.Prelude.{ℕ, ℤ, List, map, Option}
use Rattle.std.specs.List.{find}
use Rattle.std.specs.Ordering.{int_eq}
use Rattle.ice_filter.specs.declared.bound.BoundPredicate.{BoundPredicate}
use Rattle.ice_filter.specs.declared.parts.Part.{Part}
use Rattle.ice_meta.specs.declared.spec.Spec.{Spec}
use Rattle.ice_project.specs.Projection.{projection}
use Rattle.icescan_explain.specs.Alone.{lone_predicates, lone_tests}
use Rattle.icescan_explain.specs.declared.tests.FilterTests.{FilterTests}
use Rattle.icescan_explain.specs.declared.tests.SpecTests.{SpecTests}

abbrev pub spec_tests : List (Part BoundPredicate) → Spec → SpecTests
spec_tests filter spec =
    let part = projection filter spec in record { spec = spec; part = part; lone = lone_tests spec part }

-- by a table's specs, a filter, and the names of its predicates' columns
abbrev pub ice_filter_tests : List Spec → List (Part BoundPredicate) → List (List ℕ) → FilterTests
ice_filter_tests specs filter columns = record {
  filter = record { parts = filter };
  predicates = lone_predicates columns 0 filter;
  specs = map (spec_tests filter) specs;
}

-- the first that is of a spec of this id
abbrev pub tests_of : FilterTests → ℤ → Option SpecTests
tests_of tests id = find (λ (t : SpecTests). int_eq t.spec.id id) tests.specs
