use Rattle.std.proofs.Common.{◌≡◌, drop}
use Rattle.ice_manifest_reading.specs.Lists.{twice_after, path_twice}
use Rattle.ice_manifest_reading.proofs.list.path_twice.Given as goal

abbrev pub invariant-rows : goal.invariant-rows
invariant-rows l = twice_after l.last (drop l.row-index l.others) ≡ path_twice l.rows
