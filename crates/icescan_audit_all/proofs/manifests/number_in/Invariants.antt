use Rattle.std.proofs.Common.{◌≡◌, ◌≤◌, ◌+◌, None, drop}
use Rattle.std.specs.Prelude.{option_map}
use Rattle.icescan_audit_all.specs.Manifests.{number_in}
use Rattle.icescan_audit_all.proofs.manifests.number_in.Given as goal

-- what was counted, and what is left to count behind the row before
abbrev pub invariant-rows : goal.invariant-rows
invariant-rows l = record {
  number : number_in None l.rows
      ≡ l.number + number_in (option_map (λ r. r.now) l.before) (drop l.shared-index l.rows);
  few : l.number ≤ l.shared-index;
}
