use Rattle.std.proofs.Common.{sym, ◌∙◌, refl}
use Rattle.avro_schema.specs.Attributes.{is_text}
use Rattle.avro_schema.proofs.Walks.{all_here}
use Rattle.avro_schema.proofs.attributes.all_texts.Goals as goal

pub returns-then-not-is_string : goal.returns-then-not-is_string
returns-then-not-is_string c = rw (← c.deref-item-items.ensures.value)
    (sym (all_here is_text c.deref-item-items.result.now c.items.item-index c.item-item.result _ c.items-test.true
    c.item-item.is c.items.invariant ∙ rw (sym c.if-not-is_string.ensures) refl))
