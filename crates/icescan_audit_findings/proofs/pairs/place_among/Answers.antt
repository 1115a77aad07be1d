use Rattle.std.proofs.Common.{◌≡◌, subst, to_z, of_z, w32, rules, IfNone, IfSome}
use Rattle.std.proofs.lemmas.Int.{to_z-of_z}
use Rattle.icescan_audit_findings.specs.Ids.{HasNone, IsOf}
use Rattle.icescan_audit_findings.proofs.pairs.place_among.Goals as goal

pub returns-clause-there : goal.returns-clause-there
returns-clause-there g c =
    let same : to_z w32 (of_z w32 c.args.id) ≡ c.args.id = to_z-of_z w32 c.args.id (search rules) in
    subst (λ z. IfSome c.place_searched.result (IsOf c.args.pairs.now z)) same c.place_searched.ensures.there

pub returns-clause-absent : goal.returns-clause-absent
returns-clause-absent g c =
    let same : to_z w32 (of_z w32 c.args.id) ≡ c.args.id = to_z-of_z w32 c.args.id (search rules) in
    subst (λ z. IfNone c.place_searched.result (HasNone c.args.pairs.now z)) same c.place_searched.ensures.absent
