use Rattle.icescan_audit_findings.proofs.Fingerprinted.{merged}
use Rattle.icescan_audit_findings.proofs.fingerprints.+fingerprints_by_workers+fn-fingerprints_by_workers-join+arg2+fn-fingerprints_by_workers-join+arg3.Goals as goal

pub returns : goal.returns
returns g t c =
    let first = rw c.in_ok-prints.was at c.join-first.ensures.first in
    let others = rw c.in_ok-others.was at c.join-first.ensures.second in
    merged c.args.files.now _ _ c.in_ok-prints.prints.items c.in_ok-others.others.items c.append.new.self.items
    c.sort.new.self.items c.split_at.ensures.by_index.0 first others c.in_ok-append.ensures.items
    c.in_ok-sort.ensures.permutation
