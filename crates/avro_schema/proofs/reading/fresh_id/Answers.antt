use Rattle.std.proofs.Common.{◌≡◌, sym, ◌∙◌, refl, rules, w32}
use mir.Val.{to_z, of_z}
use Rattle.std.proofs.lemmas.Int.{to_z-of_z}
use Rattle.avro_schema.proofs.Walks.{any_here, any_done, fresh_twice, fresh_new}
use Rattle.avro_schema.proofs.reading.fresh_id.Goals as goal

pub returns-then-eq : goal.returns-then-eq
returns-then-eq c =
    let same : to_z w32 (of_z w32 c.in-Some.wanted) ≡ c.in-Some.wanted = to_z-of_z w32 c.in-Some.wanted
    (search rules) in
    λ _. rw (c.in-Some.is, ← c.deref-field-items.ensures.value) (fresh_twice c.in-Some.wanted _
    c.deref-field-items.result.now same (sym c.fields.invariant ∙ any_here _ c.deref-field-items.result.now
    c.fields.field-index c.field-item.result c.fields-test.true c.field-item.is ∙ rw (sym c.if-eq.ensures) refl))

pub fields-preserved : goal.fields-preserved
fields-preserved c = sym (sym c.fields.invariant ∙ any_here _ c.deref-field-items.result.now c.fields.field-index
    c.field-item.result c.fields-test.true c.field-item.is ∙ rw (sym c.if-eq.ensures) refl)

pub returns : goal.returns
returns c =
    let same : to_z w32 (of_z w32 c.in-Some.wanted) ≡ c.in-Some.wanted = to_z-of_z w32 c.in-Some.wanted
    (search rules) in
    rw (c.in-Some.is, ← c.deref-field-items.ensures.value) (fresh_new c.in-Some.wanted _ c.deref-field-items.result.now
    same (sym c.fields.invariant ∙ any_done _ c.deref-field-items.result.now c.fields.field-index
    c.fields-test.false))
