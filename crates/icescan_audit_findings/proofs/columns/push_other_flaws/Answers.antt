use Rattle.std.proofs.Common.{List, ℕ, subst, sym}
use Rattle.icescan_audit_findings.specs.Places.{HasFlawed}
use Rattle.icescan_audit_findings.proofs.columns.push_other_flaws.Goals as goal

pub push_flaws_said_at-requires-clause-flawed : goal.push_flaws_said_at-requires-clause-flawed
push_flaws_said_at-requires-clause-flawed c =
    let all = c.args.columns.now.all.now in
    subst (λ (found : List ℕ). HasFlawed c.args.bounds.now all found) (sym c.deref.ensures.value)
    (rw c.in-Some.is at (c.in_ok-places.ensures.flawed all c.args.columns.now.finds))
