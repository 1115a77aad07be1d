use Rattle.std.proofs.Common.{◌≡◌, map, take}
use Rattle.icescan_parts.specs.Alone.{path_of}
use Rattle.icescan_paths.specs.Paths.{lent}
use Rattle.icescan_parts.proofs.apart.paths_of.Given as goal

abbrev pub invariant-lines : goal.invariant-lines
invariant-lines l = lent l.paths.items ≡ map path_of (take l.line-index l.lines)
