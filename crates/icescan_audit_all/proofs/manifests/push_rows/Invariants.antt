use Rattle.std.proofs.Common.{◌≡◌, ◌++◌, take}
use Rattle.icescan_audit_all.proofs.manifests.push_rows.Given as goal

abbrev pub invariant-rows : goal.invariant-rows
invariant-rows l = l.all.items ≡ l.fn.all.items ++ take l.row-index l.rows
