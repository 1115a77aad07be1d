use Rattle.ice_deletes.specs.Keys.{key_of}
use Rattle.icescan_audit_findings.specs.Dangling.{delete_key}
use Rattle.icescan_audit_findings.specs.Lookups.{delete_lent}
use Rattle.icescan_audit_findings.proofs.Stepwise.{map_more}
use Rattle.icescan_audit_findings.proofs.deletes.records.Goals as goal

pub deletes-preserved : goal.deletes-preserved
deletes-preserved c = rw c.in_ok-push.ensures.items
    (map_more key_of (λ d. delete_key (delete_lent d).1) c.deletes.records.items c.record.result c.args.deletes.now
    c.deletes.delete-index c.delete-item.result c.deletes-test.true c.delete-item.is c.deletes.invariant
    c.record.ensures)
