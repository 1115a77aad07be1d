use Rattle.std.proofs.Common.{◌≡◌, take}
use Rattle.ice_filter.specs.Trees.{map_predicates}
use Rattle.ice_project.specs.Projection.{predicate_tests}
use Rattle.ice_project.proofs.projection.project_parts.Given as goal

abbrev pub invariant-parts : goal.invariant-parts
invariant-parts l = l.projected ≡ map_predicates (predicate_tests 0 l.fields) (take l.part-index l.parts)
