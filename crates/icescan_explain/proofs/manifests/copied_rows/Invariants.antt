use Rattle.std.proofs.Common.{◌≡◌, take}
use Rattle.icescan_explain.proofs.manifests.copied_rows.Given as goal

abbrev pub invariant-rows : goal.invariant-rows
invariant-rows l = l.copied.items ≡ take l.row-index l.rows
