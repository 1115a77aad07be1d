use Rattle.std.proofs.Common.{◌≡◌, map, take}
use Rattle.icescan_explain.specs.Asking.{spec_tests}
use Rattle.icescan_explain.proofs.tests.each_spec.Given as goal

abbrev pub invariant-specs : goal.invariant-specs
invariant-specs l = l.tests ≡ map (spec_tests l.filter.parts) (take l.spec-index l.specs)
