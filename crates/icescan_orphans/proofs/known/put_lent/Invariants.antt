use Rattle.std.proofs.Common.{◌≡◌, ◌++◌, take}
use Rattle.icescan_paths.specs.Paths.{lent}
use Rattle.icescan_orphans.proofs.known.put_lent.Given as goal

abbrev pub invariant-paths : goal.invariant-paths
invariant-paths l = lent l.slices.items ≡ lent l.fn.slices.items ++ take l.path-index l.paths
