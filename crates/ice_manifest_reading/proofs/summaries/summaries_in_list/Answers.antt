use Rattle.std.proofs.Common.{◌≡◌, [], List, sym, subst, refl}
use Rattle.contract_words.specs.Outcome.{Gives}
use Rattle.avro_file.specs.Picking.{Typed}
use Rattle.ice_manifest_fields.specs.declared.fault.ListFault.TheVariants.{Memory}
use Rattle.ice_manifest_fields.specs.Each.{each}
use Rattle.ice_manifest_fields.specs.Fields.{there, items_of}
use Rattle.ice_manifest_fields.specs.Naming.{in_list, told}
use Rattle.avro_schema.specs.View.{tree}
use Rattle.ice_manifest_layouts.specs.RowsFound.{summary_ids}
use Rattle.ice_manifest_values.proofs.Guiding.{guide_fits}
use Rattle.ice_manifest_reading.specs.Lists.{summary_of}
use Rattle.ice_manifest_reading.proofs.summaries.summaries_in_list.Goals as goal

pub summaries_of-requires : goal.summaries_of-requires
summaries_of-requires c =
    let met = c.requires.0 in
    let list = c.in-Some.ensures met c.requires.1 in
    guide_fits summary_ids c.args.guide met (tree c.in-Some.items.schema.now) c.requires.2 list.3

pub returns-in-Some : goal.returns-in-Some
returns-in-Some c = λ met is.
    let list = c.in-Some.ensures met is in
    subst (λ (ys : List Typed). Gives Memory (λ x. x) c.summaries_of.result (told in_list (each summary_of ys)))
    (sym list.2) (c.summaries_of.ensures list.0 list.1)

pub returns-in-None : goal.returns-in-None
unfolding each
returns-in-None c = λ met is.
    let none : items_of (there met) ≡ [] = c.in-None.ensures met is in
    rw (c.new.ensures, none) refl
