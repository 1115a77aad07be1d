use Rattle.std.proofs.Common.{◌≡◌, subst, arith, to_z, of_z, w32, rules}
use Rattle.std.proofs.lemmas.Int.{to_z-of_z}
use Rattle.icescan_audit_findings.specs.Ids.{IsBefore, IsBehind}
use Rattle.icescan_audit_findings.proofs.Rising.{between}
use Rattle.icescan_audit_findings.proofs.pairs.is_gap.Goals as goal

pub returns-then-is_behind : goal.returns-then-is_behind
returns-then-is_behind g c = λ yes.
    let pairs = c.args.pairs.now in
    let place = c.args.place in
    let same : to_z w32 (of_z w32 c.args.id) ≡ c.args.id = to_z-of_z w32 c.args.id (search rules) in
    between pairs c.args.id place c.requires (omega arith)
    (subst (λ z. IsBehind pairs place z) same (c.is_behind.ensures c.if-is_behind.true))
    (subst (λ z. IsBefore pairs place z) same (c.is_before.ensures yes))
