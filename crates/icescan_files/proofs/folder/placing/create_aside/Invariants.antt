use Rattle.std.specs.List.{AllByRecursion}
use Rattle.icescan_files.specs.Disks.{Extends, IsTaken}
use Rattle.icescan_files.proofs.folder.placing.create_aside.Given as goal

-- the names so far were taken
abbrev pub invariant-loop-number : goal.invariant-loop-number
invariant-loop-number g l =
    Extends (g.D.Disk.events l.fn.disk) (g.D.Disk.events l.disk) (AllByRecursion IsTaken)
