use Rattle.std.proofs.Common.{◌≡◌, ◌++◌, take}
use Rattle.std.specs.List.{flat_map}
use Rattle.icescan_columns.specs.JsonLines.{snapshot_object}
use Rattle.icescan_columns.proofs.json_lines.push_snapshots.Given as goal

-- the lines so far
abbrev pub invariant-snapshots : goal.invariant-snapshots
invariant-snapshots l = l.lines ≡ l.fn.lines ++ flat_map snapshot_object (take l.snapshot-index l.snapshots)
