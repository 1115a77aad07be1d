use Rattle.std.proofs.Common.{◌≡◌, take}
use Rattle.icescan_parts.specs.Alone.{without_paths}
use Rattle.icescan_paths.specs.Paths.{lent}
use Rattle.icescan_parts.proofs.apart.without_paths.Given as goal

abbrev pub invariant-lines : goal.invariant-lines
invariant-lines l = l.found.items ≡ without_paths (lent l.paths.paths.items) (take l.line-index l.lines)
