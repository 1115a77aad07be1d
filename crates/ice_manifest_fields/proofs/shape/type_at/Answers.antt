use Rattle.std.proofs.Common.{◌≡◌, sym, ◌∙◌, refl, rules, w32}
use mir.Val.{to_z, of_z}
use Rattle.std.proofs.lemmas.Int.{to_z-of_z}
use Rattle.ice_manifest_fields.proofs.Steps.{type_here, type_end}
use Rattle.ice_manifest_fields.proofs.shape.type_at.Goals as goal

pub returns-then-eq : goal.returns-then-eq
returns-then-eq c =
    let same : to_z w32 (of_z w32 c.args.id) ≡ c.args.id = to_z-of_z w32 c.args.id (search rules) in
    let step = type_here _ c.args.fields.now c.fields.field-index c.field-item.result c.fields-test.true
    c.field-item.is in
    rw (← same) (sym (sym c.fields.invariant ∙ step ∙ rw (sym c.if-eq.ensures) refl))

pub fields-preserved : goal.fields-preserved
fields-preserved c =
    let step = type_here _ c.args.fields.now c.fields.field-index c.field-item.result c.fields-test.true
    c.field-item.is in
    sym (sym c.fields.invariant ∙ step ∙ rw (sym c.if-eq.ensures) refl)

pub returns : goal.returns
returns c =
    let same : to_z w32 (of_z w32 c.args.id) ≡ c.args.id = to_z-of_z w32 c.args.id (search rules) in
    rw (← same) (sym (type_end _ c.args.fields.now c.fields.field-index c.fields-test.false) ∙ c.fields.invariant)
