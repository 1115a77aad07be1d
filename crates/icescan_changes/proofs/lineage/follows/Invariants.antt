use Rattle.std.proofs.Common.{◌≡◌, ◌+◌, length}
use Rattle.contract_words.specs.Outcome.{◌>>=◌}
use Rattle.icescan_changes.specs.Lineage.{followed, follows}
use Rattle.icescan_changes.proofs.lineage.follows.Given as goal

-- what is told of the snapshots from the earlier one up to this, and then of those behind it
abbrev pub invariant-snapshots : goal.invariant-snapshots
invariant-snapshots l = (follows l.steps l.metadata.table l.earlier l.id >>= λ _. followed l.other)
    ≡ follows (length l.metadata.table.snapshots + 1) l.metadata.table l.earlier l.later

abbrev pub decreases-snapshots : goal.decreases-snapshots
decreases-snapshots l = l.steps
