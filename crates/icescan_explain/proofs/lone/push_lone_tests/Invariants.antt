use Rattle.std.proofs.Common.{◌≡◌, ◌++◌, map, take}
use Rattle.icescan_explain.specs.Alone.{lone_test}
use Rattle.icescan_explain.proofs.lone.push_lone_tests.Given as goal

abbrev pub invariant-tests : goal.invariant-tests
invariant-tests l = l.lone ≡ l.fn.lone ++ map (lone_test l.spec l.fields) (take l.test-index l.tests)
