use Rattle.std.proofs.Common.{◌∙◌, sym, ap, arith}
use Rattle.serde_json.specs.View.{view, items_view}
use Rattle.ice_meta.specs.SchemaTexts.{each_field, nested_in}
use Rattle.ice_meta.proofs.Appended.{fields_on, fields_over}
use Rattle.ice_meta.proofs.SchemaText.{view-Null, no_level, one_level}
use Rattle.ice_meta.proofs.schema_text.+texts.Goals as goal

pub each_field-fields-preserved : goal.each_field-fields-preserved
each_field-fields-preserved t c =
    rw c.in_ok-push.ensures.ok (fields_on (nested_in c.args.levels) c.deref-item-items.result.now c.fields.item-index
    c.item-item.result c.fields.fields.items c.in_ok-field_of.field-0 _ c.fields-test.true c.item-item.is
    c.in_ok-field_of.ensures c.fields.invariant)

pub each_field-returns : goal.each_field-returns
each_field-returns t c =
    fields_over (nested_in c.args.levels) c.deref-item-items.result.now c.fields.item-index _ _ c.fields-test.false
    c.fields.invariant
    ∙ ap (λ vs. each_field (nested_in c.args.levels) (items_view vs)) c.deref-item-items.ensures.value

pub nested_of-returns-then-levels-eq0 : goal.nested_of-returns-then-levels-eq0
nested_of-returns-then-levels-eq0 t c = view-Null ∙ sym (no_level c.args.levels (view c.args.json.now)
    c.if-levels-eq0.true)

pub nested_of-returns : goal.nested_of-returns
nested_of-returns t c = rw (one_level c.args.levels (view c.args.json.now) (omega arith)) c.object_of.ensures
