use Rattle.std.proofs.Common.{◌≡◌, map, take}
use Rattle.ice_deletes.specs.Keys.{key_of}
use Rattle.icescan_audit_findings.specs.Dangling.{delete_key}
use Rattle.icescan_audit_findings.specs.Lookups.{delete_lent}
use Rattle.icescan_audit_findings.proofs.deletes.records.Given as goal

abbrev pub invariant-deletes : goal.invariant-deletes
invariant-deletes l = map key_of l.records.items
    ≡ map (λ d. delete_key (delete_lent d).1) (take l.delete-index l.deletes)
