use Rattle.std.proofs.Common.{◌≡◌, take}
use Rattle.icescan_paths.specs.Paths.{lent}
use Rattle.icescan_paths.specs.Strays.{strays_beside}
use Rattle.icescan_paths.proofs.aged.strays_beside.Given as goal

abbrev pub invariant-files : goal.invariant-files
invariant-files l = l.found.items ≡ strays_beside (lent l.known.paths.paths.items) (lent l.known.plain.paths.items)
    l.older_than_ms (take l.file-index l.files)
