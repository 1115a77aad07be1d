use Rattle.std.proofs.Common.{◌≡◌}
use Rattle.ice_manifest_reading.proofs.list.owned.Given as goal

abbrev pub invariant-rows : goal.invariant-rows
invariant-rows l = l.owned.items ≡ l.yielded
