use Rattle.std.proofs.Common.{sym, ◌∙◌, refl}
use Rattle.avro_schema.specs.Attributes.{is_object}
use Rattle.avro_schema.proofs.Walks.{all_here}
use Rattle.avro_schema.proofs.attributes.all_objects.Goals as goal

pub returns-then-not-is_object : goal.returns-then-not-is_object
returns-then-not-is_object c = rw (← c.deref-item-items.ensures.value)
    (sym (all_here is_object c.deref-item-items.result.now c.items.item-index c.item-item.result _ c.items-test.true
    c.item-item.is c.items.invariant ∙ rw (sym c.if-not-is_object.ensures) refl))
