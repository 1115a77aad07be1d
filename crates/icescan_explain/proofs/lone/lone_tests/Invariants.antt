use Rattle.std.proofs.Common.{◌≡◌, take}
use Rattle.std.specs.List.{flat_map}
use Rattle.icescan_explain.specs.Alone.{tests_in}
use Rattle.icescan_explain.proofs.lone.lone_tests.Given as goal

abbrev pub invariant-parts : goal.invariant-parts
invariant-parts l = l.lone ≡ flat_map (tests_in l.spec l.part.fields) (take l.part_of-index l.parts)
