use Rattle.std.proofs.Common.{◌≡◌, ◌++◌, IfSome, drop}
use Rattle.ice_project.specs.Projection.{predicate_tests}
use Rattle.ice_project.proofs.projection.predicate_tests.Given as goal

abbrev pub invariant-fields : goal.invariant-fields
invariant-fields l = record {
  found : l.found ++ predicate_tests l.position
      (drop l.position l.fields) l.predicate ≡ predicate_tests 0 l.fields l.predicate;
  copied : IfSome l.copied (λ test. test ≡ l.predicate.test);
}
