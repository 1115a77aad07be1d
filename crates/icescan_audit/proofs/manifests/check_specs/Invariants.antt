use Rattle.std.proofs.Common.{◌≡◌, drop}
use Rattle.icescan_audit.specs.Audits.{all_known}
use Rattle.icescan_audit.proofs.manifests.check_specs.Given as goal

abbrev pub invariant-rows : goal.invariant-rows
invariant-rows l = all_known l.specs (drop l.row-index l.rows) ≡ all_known l.specs l.rows
