use Rattle.std.proofs.Common.{◌≡◌, List, Option, Some, sym, ap, subst, ◌∙◌}
use Rattle.avro_schema.specs.declared.schema.Schema.{Schema}
use Rattle.avro_schema.specs.Tree.{Tree, array}
use Rattle.avro_schema.specs.View.{tree}
use Rattle.avro_file.specs.Value.{Value, values_of}
use Rattle.avro_file.specs.Blocks.{StandsAt}
use Rattle.avro_file.specs.Picking.{Picked}
use Rattle.avro_file_picked.specs.declared.found.Found.{Found}
use Rattle.avro_file_picked.specs.Finding.{IsMet}
use Rattle.ice_manifest_fields.specs.Fields.{there, items_of, items_as}
use Rattle.ice_manifest_fields.proofs.Steps.{tree-Array}
use Rattle.ice_manifest_values.specs.InPlace.{type_listed}
use Rattle.ice_manifest_values.proofs.items.items_of.Goals as goal

pub returns-in-Array : goal.returns-in-Array
returns-in-Array c = λ met is.
    let m : IsMet (Some c.in_ok-found.found) met =
    subst (λ (o : Option Found). IsMet o met) c.in_ok-found.was is in
    let t : Tree = array (tree c.deref.result.now) c.in-Array.field-1 c.in-Array.field-2 in
    let of : tree c.in_ok-found.found.schema.now ≡ t = ap tree (sym c.schema.ensures ∙ c.in-Array.is)
    ∙ tree-Array c.in-Array.items c.in-Array.field-1 c.in-Array.field-2
    ∙ ap (λ (s : Schema). array (tree s) c.in-Array.field-1 c.in-Array.field-2) (sym c.deref.ensures) in
    let here = subst (λ (bytes : List _). StandsAt t bytes m.0) (sym c.bytes.ensures)
    (subst (λ (u : Tree). StandsAt u c.in_ok-found.found.bytes.now m.0) of m.1) in
    let list = c.new.ensures.items c.in-Array.field-1 c.in-Array.field-2 m.0 here in (
      list.0,
      list.2,
      ap (λ (p : Picked). items_of (there p)) m.2 ∙ ap (λ (u : Tree). items_of (Some (u, m.0))) of
          ∙ ap (λ (w : Value). items_of (Some (t, w))) list.1
          ∙ ap (λ (s : Schema). items_as (tree s) (values_of list.0)) (sym c.new.ensures.schema),
      ap (λ (p : Picked). type_listed (there p)) m.2 ∙ ap (λ (u : Tree). type_listed (Some (u, m.0))) of
          ∙ ap (λ (s : Schema). Some (tree s)) (sym c.new.ensures.schema),
    )
