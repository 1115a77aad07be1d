use Rattle.std.proofs.Common.{◌≡◌, [], ℤ, List, to_z, of_z, w32, rules, sym, subst, refl}
use Rattle.std.proofs.lemmas.Int.{to_z-of_z}
use Rattle.avro_schema.specs.View.{tree}
use Rattle.avro_file.specs.Value.{values_of}
use Rattle.avro_file.specs.Picking.{Typed}
use Rattle.contract_words.specs.Outcome.{Gives}
use Rattle.ice_manifest_fields.specs.declared.fault.ManifestFault.TheVariants.{Memory}
use Rattle.ice_manifest_fields.specs.Each.{each}
use Rattle.ice_manifest_fields.specs.Fields.{there, items_of, items_as, int_item}
use Rattle.ice_manifest_fields.specs.Naming.{in_manifest, told}
use Rattle.ice_manifest_values.proofs.list.ints.Goals as goal

pub returns-in-Some : goal.returns-in-Some
returns-in-Some c = λ met is.
    let list = c.in-Some.ensures met is in
    let same : to_z w32 (of_z w32 c.args.item) ≡ c.args.item = to_z-of_z w32 c.args.item (search rules) in
    subst (λ (ys : List Typed). Gives Memory (λ ids. ids) c.each_int.result
    (told in_manifest (each (int_item c.args.item) ys))) (sym list.2)
    (subst (λ (z : ℤ). Gives Memory (λ ids. ids) c.each_int.result (told in_manifest (each (int_item z)
    (items_as (tree c.in-Some.items.schema.now) (values_of list.0))))) same (c.each_int.ensures list.0 list.1))

pub returns-in-None : goal.returns-in-None
unfolding each
returns-in-None c = λ met is.
    let none : items_of (there met) ≡ [] = c.in-None.ensures met is in
    rw (c.new.ensures, none) refl
