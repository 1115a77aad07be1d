use Rattle.std.proofs.Common.{◌≡◌, map, take}
use Rattle.icescan_parts.specs.Told.{path_told}
use Rattle.icescan_orphans.proofs.told.paths_told.Given as goal

abbrev pub invariant-lines : goal.invariant-lines
invariant-lines l = l.paths.items ≡ map path_told (take l.line-index l.lines)
