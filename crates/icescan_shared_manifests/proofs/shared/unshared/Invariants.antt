use Rattle.std.proofs.Common.{◌≡◌, ◌++◌, drop}
use Rattle.icescan_shared_manifests.specs.Shared.{unshared}
use Rattle.icescan_shared_manifests.proofs.shared.unshared.Given as goal

-- the rows so far, and those of what is left
abbrev pub invariant-rows : goal.invariant-rows
invariant-rows l = l.own.items ++ unshared l.others (drop l.row-index l.rows) ≡ unshared l.others l.rows
