use Rattle.std.proofs.Common.{◌≡◌, drop}
use Rattle.ice_state.specs.Pruning.{summaries_allow}
use Rattle.icescan_explain.specs.Blaming.{blamed_field}
use Rattle.icescan_explain.proofs.blame.blamed_by_row.Given as goal

abbrev pub invariant-tests : goal.invariant-tests
invariant-tests l = blamed_field (drop l.test-index l.lone) (λ part. summaries_allow part l.row.partitions)
    ≡ blamed_field l.lone (λ part. summaries_allow part l.row.partitions)
