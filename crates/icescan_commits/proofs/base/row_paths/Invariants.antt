use Rattle.std.proofs.Common.{◌≡◌, take}
use Rattle.ice_desk.specs.Wanted.{paths_of}
use Rattle.icescan_commits.proofs.base.row_paths.Given as goal

abbrev pub invariant-rows : goal.invariant-rows
invariant-rows l = l.paths.items ≡ paths_of (take l.row-index l.rows)
