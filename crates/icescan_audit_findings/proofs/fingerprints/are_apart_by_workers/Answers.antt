use Rattle.icescan_audit_findings.proofs.Fingerprinted.{parts_apart}
use Rattle.icescan_audit_findings.proofs.fingerprints.are_apart_by_workers.Goals as goal

pub returns : goal.returns
returns g c = λ yes.
    let first = rw c.in_ok-first.was at c.join-first.ensures.first in
    let others = rw c.in_ok-others.was at c.join-first.ensures.second in
    let one = rw c.deref.ensures.value at (c.all_differ.ensures.one yes) in
    let other = rw c.deref-2.ensures.value at (c.all_differ.ensures.other yes) in
    let unlike = rw (c.deref.ensures.value, c.deref-2.ensures.value) at (c.all_differ.ensures.unlike yes) in
    parts_apart c.args.files.now c.split_at.result.0.now c.split_at.result.1.now c.in_ok-first.first.items
    c.in_ok-others.others.items c.split_at.ensures.by_index.0 first others one other unlike
