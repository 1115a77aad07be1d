use Rattle.std.proofs.Common.{◌≡◌, drop}
use Rattle.icescan_shared_manifests.specs.Shared.{has_deletes_of}
use Rattle.icescan_shared_manifests.proofs.shared.has_deletes_of.Given as goal

-- what is left decides
abbrev pub invariant-rows : goal.invariant-rows
invariant-rows l = has_deletes_of l.others (drop l.row-index l.rows) ≡ has_deletes_of l.others l.rows
