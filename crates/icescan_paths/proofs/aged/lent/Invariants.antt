use Rattle.std.proofs.Common.{◌≡◌, take}
use Rattle.icescan_paths.specs.Paths.{lent}
use Rattle.icescan_paths.proofs.aged.lent.Given as goal

abbrev pub invariant-paths : goal.invariant-paths
invariant-paths l = lent l.slices.items ≡ take l.path-index l.paths
