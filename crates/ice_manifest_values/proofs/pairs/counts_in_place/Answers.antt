use Rattle.std.proofs.Common.{◌≡◌, [], List, sym, subst, refl}
use Rattle.avro_schema.specs.View.{tree}
use Rattle.avro_file.specs.Picking.{Typed}
use Rattle.contract_words.specs.Outcome.{Gives}
use Rattle.ice_value.specs.Pairs.{counts_said}
use Rattle.ice_manifest_fields.specs.declared.fault.ManifestFault.TheVariants.{Memory}
use Rattle.ice_manifest_fields.specs.Each.{each}
use Rattle.ice_manifest_fields.specs.Fields.{there, items_of}
use Rattle.ice_manifest_fields.specs.Maps.{count_of}
use Rattle.ice_manifest_fields.specs.Naming.{in_manifest, told}
use Rattle.ice_manifest_values.specs.Met.{pair_ids}
use Rattle.ice_manifest_values.proofs.Guiding.{guide_fits}
use Rattle.ice_manifest_values.proofs.pairs.counts_in_place.Goals as goal

pub returns-in-Some : goal.returns-in-Some
returns-in-Some c = λ met is leads.
    let list = c.in-Some.ensures met is in
    let fits = guide_fits (pair_ids c.args.map) c.guide_of_pairs.result met (tree c.in-Some.items.schema.now)
    (c.guide_of_pairs.ensures met leads) list.3 in
    subst (λ (ys : List Typed). Gives Memory (λ pairs. counts_said pairs.items) c.counts_ahead.result
    (told in_manifest (each (count_of c.args.map) ys))) (sym list.2) (c.counts_ahead.ensures list.0 fits list.1)

pub returns-in-None : goal.returns-in-None
unfolding each
returns-in-None c = λ met is leads.
    let none : items_of (there met) ≡ [] = c.in-None.ensures met is in
    rw (c.new.ensures.items, none) refl
