use Rattle.std.proofs.Common.{◌≡◌, true, sym, ap, subst, ◌∙◌}
use Rattle.avro_schema.specs.declared.schema.Schema.{Schema}
use Rattle.avro_schema.specs.Tree.{array}
use Rattle.avro_schema.specs.View.{tree}
use Rattle.avro_file.specs.Pairs.{IsPair}
use Rattle.avro_file.proofs.Places.{some_weaker}
use Rattle.ice_manifest_fields.specs.Places.{lies_as_pairs}
use Rattle.ice_manifest_fields.proofs.Steps.{tree-Array}
use Rattle.ice_manifest_values.proofs.listed.second_of_map.Goals as goal

pub returns-in-Array : goal.returns-in-Array
returns-in-Array c =
    let here = c.in-Array in
    let of : tree c.args.schema.now ≡ array (tree here.items.value) here.field-1 here.field-2 =
    ap tree here.is ∙ tree-Array here.items here.field-1 here.field-2 in
    let lies : lies_as_pairs c.args.map (tree here.items.value) ≡ true =
    ap (λ (s : Schema). lies_as_pairs c.args.map (tree s)) (sym c.deref.ensures)
    ∙ c.names_pair.ensures c.if-names_pair.true in
    some_weaker c.second_of_pair.result _ _ (λ second is. (
      tree here.items.value,
      here.field-1,
      here.field-2,
      of,
      subst (λ (s : Schema). IsPair (tree s) second) c.deref-in-Array.ensures is,
      lies,
    )) c.second_of_pair.ensures
