use Rattle.std.proofs.Common.{◌≡◌, sym, ◌∙◌, rules, w64}
use mir.Val.{to_z, of_z}
use Rattle.std.proofs.lemmas.Int.{to_z-of_z}
use Rattle.ice_meta.proofs.Steps.{again_later}
use Rattle.ice_meta.proofs.numbered.again.Goals as goal

pub ids-preserved : goal.ids-preserved
ids-preserved c =
    let same : to_z w64 (of_z w64 c.in-Some.id.now) ≡ c.in-Some.id.now = to_z-of_z w64 c.in-Some.id.now
    (search rules) in
    sym (again_later c.ids.rest.now c.in-Some.others.now c.in-Some.id.now (to_z w64 (of_z w64 c.in-Some.id.now)) same
    c.in-Some.ensures.cases (sym c.has_id.ensures ∙ c.if-has_id.false)) ∙ c.ids.invariant
