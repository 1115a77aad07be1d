use Rattle.std.proofs.Common.{◌≡◌, refl, ap, ◌∙◌}
use Rattle.avro_schema.specs.Tree.{long, octets, structure}
use Rattle.avro_schema.specs.View.{tree}
use Rattle.avro_file.proofs.Views.{tree-Record}
use Rattle.avro_file.proofs.Leaves.{tree-Int, tree-Long, tree-Bytes}
use Rattle.avro_file.proofs.Paired.{two_fields}
use Rattle.avro_file.proofs.pairs.second_of_pair.Goals as goal

pub returns-in-Int-Long : goal.returns-in-Int-Long
returns-in-Int-Long c =
    let here : c.deref.result.now ≡ c.in-Record.fields.value = c.deref.ensures in
    let first = ap tree c.in-Int-Long.is-0 ∙ tree-Int in
    let second = ap tree c.in-Int-Long.is-1 ∙ tree-Long in
    let two = two_fields c.as_slice.result.now c.first-item.result c.second-item.result _ _ c.in-len2.len_at_least
    c.in-len2.len_below c.first-item.is c.second-item.is first second in (
      c.first-item.result.id,
      c.second-item.result.id,
      long,
      refl,
      rw (
        c.in-Record.is,
        tree-Record c.in-Record.fields,
        ←
            here,
        ← c.as_slice.ensures.value,
      ) (ap structure two),
    )

pub returns-in-Int-Bytes : goal.returns-in-Int-Bytes
returns-in-Int-Bytes c =
    let here : c.deref.result.now ≡ c.in-Record.fields.value = c.deref.ensures in
    let first = ap tree c.in-Int-Bytes.is-0 ∙ tree-Int in
    let second = ap tree c.in-Int-Bytes.is-1 ∙ tree-Bytes c.in-Int-Bytes.field-0-1 in
    let two = two_fields c.as_slice.result.now c.first-item.result c.second-item.result _ _ c.in-len2.len_at_least
    c.in-len2.len_below c.first-item.is c.second-item.is first second in (
      c.first-item.result.id,
      c.second-item.result.id,
      octets c.in-Int-Bytes.field-0-1,
      (c.in-Int-Bytes.field-0-1, refl),
      rw (c.in-Record.is, tree-Record c.in-Record.fields, ← here, ← c.as_slice.ensures.value) (ap structure two),
    )
