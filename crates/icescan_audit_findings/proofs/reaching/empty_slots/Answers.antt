use Rattle.std.proofs.Common.{[], ◌∷◌, None, arith}
use Rattle.std.proofs.lemmas.List.{length-append}
use Rattle.icescan_audit_findings.proofs.Covering.{empty_more}
use Rattle.icescan_audit_findings.proofs.reaching.empty_slots.Goals as goal

pub slots-preserved : goal.slots-preserved
slots-preserved c = rw c.in_ok-push.ensures.items (record {
  len = omega (arith, length-append c.slots.slots.items (None ∷ []), c.slots.invariant.len);
  empty = empty_more c.slots.slots.items c.slots.invariant.empty;
})
