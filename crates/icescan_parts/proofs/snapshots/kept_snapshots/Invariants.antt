use Rattle.std.proofs.Common.{◌≡◌, take}
use Rattle.icescan_parts.specs.Gone.{kept}
use Rattle.icescan_parts.proofs.snapshots.kept_snapshots.Given as goal

abbrev pub invariant-snapshots : goal.invariant-snapshots
invariant-snapshots l = l.stay.items ≡ kept l.gone (take l.snapshot-index l.snapshots)
