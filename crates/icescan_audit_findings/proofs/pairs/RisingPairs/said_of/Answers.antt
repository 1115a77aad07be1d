use Rattle.std.proofs.Common.{◌≡◌, ◌∙◌, sym, subst, to_z, of_z, w32, rules}
use Rattle.std.proofs.lemmas.Int.{to_z-of_z}
use Rattle.icescan_audit_findings.specs.Ids.{HasNone, IsOf}
use Rattle.icescan_audit_findings.proofs.AmongPairs.{said_at, said_nowhere}
use Rattle.icescan_audit_findings.proofs.pairs.RisingPairs.said_of.Goals as goal

pub returns-in_err-place-clause-said : goal.returns-in_err-place-clause-said
returns-in_err-place-clause-said g c =
    let pairs = c.args.self.now.pairs.now in
    let same : to_z w32 (of_z w32 c.args.id) ≡ c.args.id = to_z-of_z w32 c.args.id (search rules) in
    c.from_residual.ensures
    ∙ sym (said_nowhere pairs c.args.id (subst (λ z. HasNone pairs z) same c.in_err-place.ensures.absent))

pub returns-clause-said : goal.returns-clause-said
returns-clause-said g c =
    let pairs = c.args.self.now.pairs.now in
    let place = c.in_ok-place.place in
    let same : to_z w32 (of_z w32 c.args.id) ≡ c.args.id = to_z-of_z w32 c.args.id (search rules) in
    let there = subst (λ z. IsOf pairs z place) same c.in_ok-place.ensures.there in
    sym (said_at pairs c.args.id c.args.self.now.rises place c.index-self-place.result there.0 (there.1 _))
