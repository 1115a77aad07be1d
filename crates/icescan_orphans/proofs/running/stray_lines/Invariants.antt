use Rattle.std.proofs.Common.{◌≡◌, take}
use Rattle.icescan_orphans.specs.Written.{stray_lines}
use Rattle.icescan_orphans.proofs.running.stray_lines.Given as goal

abbrev pub invariant-found : goal.invariant-found
invariant-found l = l.lines.items ≡ stray_lines (take l.stray-index l.found)
