use Rattle.std.proofs.Common.{◌≡◌, map, take}
use Rattle.ice_meta.specs.Partitioning.{without_fields}
use Rattle.icescan_requests.proofs.list_plans.specs_of.Given as goal

abbrev pub invariant-rows : goal.invariant-rows
invariant-rows l = l.specs ≡ map (λ row. without_fields row.spec_id) (take l.row-index l.rows)
