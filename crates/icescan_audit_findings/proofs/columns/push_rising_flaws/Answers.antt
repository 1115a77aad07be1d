use Rattle.std.proofs.Common.{List, ℕ, subst, sym}
use Rattle.icescan_audit_findings.specs.Places.{HasFlawed}
use Rattle.icescan_audit_findings.proofs.columns.push_rising_flaws.Goals as goal

pub returns-in-Some : goal.returns-in-Some
returns-in-Some c =
    let all = c.args.columns.now.all.now in
    c.push_flaws_found_at.ensures c.args.bounds.now c.requires
    (subst (λ (found : List ℕ). HasFlawed c.args.bounds.now all found) (sym c.deref.ensures.value)
    (rw c.in-Some.is at (c.in_ok-places.ensures.flawed all c.args.columns.now.finds)))
