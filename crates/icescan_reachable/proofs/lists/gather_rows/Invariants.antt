use Rattle.std.proofs.Common.{List, [], drop}
use Rattle.ice_manifest_reading.specs.declared.row.Row.{Row}
use Rattle.icescan_reachable.specs.Given.{AreRowsBehind}
use Rattle.icescan_reachable.proofs.lists.gather_rows.Given as goal

-- the rows of what is left come among those so far
abbrev pub invariant-snapshots : goal.invariant-snapshots
invariant-snapshots g l = (all : List Row)
    → AreRowsBehind (g.F.Files.gives l.files) l.rows.items (drop l.snapshot-index l.snapshots) all
    → AreRowsBehind (g.F.Files.gives l.files) [] l.snapshots all
