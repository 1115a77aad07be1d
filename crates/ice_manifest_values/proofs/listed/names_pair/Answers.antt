use Rattle.std.proofs.Common.{◌≡◌, sym, ap, refl, rules, w32, ◌∙◌}
use Rattle.std.proofs.lemmas.Int.{to_z-of_z}
use mir.Val.{of_z}
use Rattle.avro_schema.specs.View.{tree}
use Rattle.avro_file.proofs.Views.{tree-Record}
use Rattle.avro_file.proofs.Paired.{two_fields}
use Rattle.ice_manifest_values.proofs.ListedPairs.{named, unlike}
use Rattle.ice_manifest_values.proofs.listed.names_pair.Goals as goal

pub returns-then-eq : goal.returns-then-eq
returns-then-eq c = λ is.
    let here : c.deref.result.now ≡ c.in-Record.fields.value = c.deref.ensures in
    let two = two_fields c.as_slice.result.now c.first-item.result c.second-item.result _ _ c.in-len2.len_at_least
    c.in-len2.len_below c.first-item.is c.second-item.is refl refl in
    let key = to_z-of_z w32 c.args.map.key (search rules) in
    let said = to_z-of_z w32 c.args.map.said (search rules) in
    rw (c.in-Record.is, tree-Record c.in-Record.fields, ← here, ← c.as_slice.ensures.value, two)
    (named c.args.map c.first-item.result.id c.second-item.result.id (tree c.first-item.result.schema)
    (tree c.second-item.result.schema) (rw key at (sym c.eq.ensures ∙ c.if-eq.true))
    (unlike c.args.map.key c.args.map.said (λ e. c.if-map.false (ap (of_z w32) e)))
    (rw said at (sym c.eq-then-eq.ensures ∙ is)))
