use Rattle.std.proofs.Common.{◌≡◌, ◌++◌, drop}
use Rattle.ice_manifest_layouts.specs.Seen.{tuple_seen}
use Rattle.ice_manifest_reading.specs.Partitions.{cells_of}
use Rattle.ice_manifest_reading.proofs.tuple.cells_of.Given as goal

abbrev pub invariant-partition : goal.invariant-partition
invariant-partition l = l.cells ++ cells_of (drop l.index l.partition) (tuple_seen l.file) ≡ cells_of
    l.partition (tuple_seen l.file)
