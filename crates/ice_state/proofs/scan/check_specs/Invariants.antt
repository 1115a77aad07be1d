use Rattle.std.proofs.Common.{◌≡◌, drop}
use Rattle.ice_state.specs.Scans.{without_spec}
use Rattle.ice_state.proofs.scan.check_specs.Given as goal

abbrev pub invariant-rows : goal.invariant-rows
invariant-rows l = without_spec l.pruning.specs (drop l.row-index l.rows) ≡ without_spec l.pruning.specs l.rows
