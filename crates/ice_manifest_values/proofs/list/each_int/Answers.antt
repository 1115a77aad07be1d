use Rattle.std.proofs.Common.{◌≡◌, ℤ, List, [], ◌∷◌, ◌++◌, to_z, of_z, w32, rules, sym, ap, subst, ◌∙◌}
use Rattle.std.proofs.lemmas.Int.{to_z-of_z}
use Rattle.std.proofs.lemmas.Result.{err_from_is_err_and}
use Rattle.avro_schema.specs.View.{tree}
use Rattle.avro_file.specs.Value.{values_of}
use Rattle.ice_manifest_fields.specs.Each.{each}
use Rattle.ice_manifest_fields.specs.Fields.{items_as, int_item}
use Rattle.ice_manifest_fields.specs.Naming.{in_manifest, told}
use Rattle.ice_manifest_values.proofs.Coming.{SoFar, none_so_far, more_so_far, stops_so_far, all_so_far}
use Rattle.ice_manifest_values.proofs.list.each_int.Goals as goal

pub items-init : goal.items-init
items-init c =
    let says = int_item (to_z w32 (of_z w32 c.args.id)) in
    subst (λ (front : List ℤ). SoFar says c.args.items c.args.items front) (sym c.new-ids.ensures)
    (none_so_far says c.args.items)

pub returns-in_err-int_item : goal.returns-in_err-int_item
returns-in_err-int_item c =
    let same : to_z w32 (of_z w32 c.args.id) ≡ c.args.id = to_z-of_z w32 c.args.id (search rules) in
    let p = err_from_is_err_and c.from_residual.result c.from_residual.ensures.1 in
    rw (p.1, p.2) (λ vs ahead _. ap (λ (z : ℤ). told in_manifest (each (int_item z)
    (items_as (tree c.args.items.schema.now) (values_of vs)))) (sym same)
    ∙ ap (told in_manifest) (stops_so_far (int_item (to_z w32 (of_z w32 c.args.id))) c.args.items c.items.items
    c.next.new.self c.in-Some.item c.items.ids c.in_err-int_item.field-0.0 c.in-Some.ensures.items
    c.in_err-int_item.ensures c.items.invariant vs ahead))

pub items-preserved : goal.items-preserved
items-preserved c =
    let says = int_item (to_z w32 (of_z w32 c.args.id)) in
    let same : to_z w32 (of_z w32 c.in_ok-int_item.field-0) ≡ c.in_ok-int_item.field-0 =
    to_z-of_z w32 c.in_ok-int_item.field-0 (search rules) in
    subst (λ (front : List ℤ). SoFar says c.args.items c.next.new.self front)
    (sym (c.in_ok-push.ensures.ok ∙ ap (λ (z : ℤ). c.items.ids ++ z ∷ []) same))
    (more_so_far says c.args.items c.items.items c.next.new.self c.in-Some.item c.items.ids
    c.in_ok-int_item.field-0 c.in-Some.ensures.items c.in_ok-int_item.ensures c.items.invariant)

pub returns : goal.returns
returns c = λ vs ahead.
    let same : to_z w32 (of_z w32 c.args.id) ≡ c.args.id = to_z-of_z w32 c.args.id (search rules) in
    ap (λ (z : ℤ). told in_manifest (each (int_item z) (items_as (tree c.args.items.schema.now) (values_of vs))))
    (sym same) ∙ ap (told in_manifest) (all_so_far (int_item (to_z w32 (of_z w32 c.args.id))) c.args.items
    c.items.items c.items.ids c.in_default.ensures.items c.items.invariant vs ahead)
