use Rattle.std.proofs.Common.{◌≡◌, drop}
use Rattle.ice_project.specs.Tuples.{part_meets}
use Rattle.icescan_explain.specs.Blaming.{blamed_field}
use Rattle.icescan_explain.proofs.blame.blamed_by_tuple.Given as goal

abbrev pub invariant-tests : goal.invariant-tests
invariant-tests l = blamed_field (drop l.test-index l.lone) (λ part. part_meets part l.tuple)
    ≡ blamed_field l.lone (λ part. part_meets part l.tuple)
