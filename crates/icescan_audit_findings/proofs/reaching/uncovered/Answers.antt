use Rattle.icescan_audit_findings.proofs.Covering.{seen_in_slot}
use Rattle.icescan_audit_findings.proofs.reaching.uncovered.Goals as goal

pub returns-in_default-clause-seen : goal.returns-in_default-clause-seen
returns-in_default-clause-seen c = λ xs seen.
    seen_in_slot xs c.args.seen.now c.slot_of-slot.result c.in_ok-found.found seen
