use Rattle.std.proofs.Common.{◌≡◌, map, take}
use Rattle.icescan_paths.specs.Paths.{lent}
use Rattle.icescan_paths.specs.Spelling.{plain}
use Rattle.icescan_paths.proofs.aged.plain_spellings.Given as goal

abbrev pub invariant-paths : goal.invariant-paths
invariant-paths l = l.spelled.items ≡ map plain (lent (take l.path-index l.paths))
