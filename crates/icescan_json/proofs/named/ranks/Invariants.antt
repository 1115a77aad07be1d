use Rattle.std.proofs.Common.{◌≡◌, ◌++◌, drop}
use Rattle.icescan_json.specs.Named.{ranks_from, ranks_of}
use Rattle.icescan_json.proofs.named.ranks.Given as goal

-- the ranks so far, and those of the marks that are left
abbrev pub invariant-marks : goal.invariant-marks
invariant-marks l = l.ranks.items ++ ranks_from l.rank (drop l.i l.marks) ≡ ranks_of l.marks
