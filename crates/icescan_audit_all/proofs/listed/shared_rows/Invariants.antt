use Rattle.std.proofs.Common.{◌≡◌, take}
use Rattle.icescan_audit_all.proofs.listed.shared_rows.Given as goal

abbrev pub invariant-rows : goal.invariant-rows
invariant-rows l = l.shared ≡ take l.row-index l.rows
