use Rattle.std.proofs.Common.{◌≡◌, sym, ◌∙◌}
use Rattle.avro_file.proofs.Views.{field_trees, tree-Record}
use Rattle.avro_file.proofs.Behind.{takes_structure, field_takes, field_takes_none, fields_over}
use Rattle.avro_file.proofs.ends.+takes.Goals as goal

pub one_takes_bytes-returns-then-takes_bytes : goal.one_takes_bytes-returns-then-takes_bytes
one_takes_bytes-returns-then-takes_bytes t c =
    let here = field_takes c.deref-field-items.result.now c.fields.field-index c.field-item.result c.fields-test.true
    c.field-item.is (sym c.if-takes_bytes.ensures) in
    rw (← c.deref-field-items.ensures.value) (sym (sym c.fields.invariant ∙ here))

pub one_takes_bytes-fields-preserved : goal.one_takes_bytes-fields-preserved
one_takes_bytes-fields-preserved t c =
    sym (field_takes_none c.deref-field-items.result.now c.fields.field-index c.field-item.result c.fields-test.true
    c.field-item.is (sym c.if-takes_bytes.ensures)) ∙ c.fields.invariant

pub one_takes_bytes-returns : goal.one_takes_bytes-returns
one_takes_bytes-returns t c = rw (← c.deref-field-items.ensures.value)
    (sym (sym c.fields.invariant ∙ fields_over c.deref-field-items.result.now c.fields.field-index c.fields-test.false))

pub takes_bytes-returns-in-Record : goal.takes_bytes-returns-in-Record
takes_bytes-returns-in-Record t c =
    let here : c.deref.result.now ≡ c.in-Record.fields.value = c.deref.ensures in
    rw (c.in-Record.is, tree-Record c.in-Record.fields, ← here, takes_structure (field_trees c.deref.result.now.items))
    c.one_takes_bytes.ensures
