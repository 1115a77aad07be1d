use Rattle.icescan_audit_findings.proofs.Stepwise.{parts_given}
use Rattle.icescan_audit_findings.specs.Dangling.{delete_of}
use Rattle.icescan_audit_findings.specs.Lookups.{delete_lent}
use Rattle.icescan_audit_findings.proofs.deletes.+delete_files_by_workers+fn-delete_files_by_workers-join+arg2+fn-delete_files_by_workers-join+arg3.Goals as goal

pub returns : goal.returns
returns g t c =
    let first = rw c.in_ok-deletes.was at c.join-first.ensures.first in
    let others = rw c.in_ok-others.was at c.join-first.ensures.second in
    rw c.in_ok-append.ensures.items
    (parts_given delete_of delete_lent c.args.files.now c.split_at.result.0.now c.split_at.result.1.now
    c.in_ok-deletes.deletes.items c.in_ok-others.others.items c.split_at.ensures.by_index.0 first others)
