use Rattle.std.proofs.Common.{None, replicate}
use Rattle.std.specs.Arc.{arc_value}
use Rattle.std.proofs.lemmas.List.Elements.{All-replicate, All-same}
use Rattle.ice_catalog.specs.Machines.{world_of}
use Rattle.ice_catalog.specs.Taken.{IsTaken}
use Rattle.ice_catalog.proofs.scanning.Scanning.new.Goals as goal

pub invariant_of-result : goal.invariant_of-result
invariant_of-result c =
    let P = IsTaken (world_of (arc_value c.args.version)) c.in-Ok.scan in
    All-same P c.in_ok-workers.workers.items (replicate 64 None) c.in_ok-workers.ensures (All-replicate P 64 None tt)
