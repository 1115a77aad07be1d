use Rattle.std.proofs.Common.{◌≡◌, ℤ, pos, [], ◌∷◌, Option, to_z, of_z, w32, rules, sym, ap, subst, ◌∙◌}
use Rattle.std.proofs.lemmas.Int.{to_z-of_z}
use Rattle.avro_file.specs.Picking.{Picked, pick}
use Rattle.avro_file_picked.specs.declared.guide.GuidedObject.{GuidedObject}
use Rattle.avro_file_picked.specs.Guides.{AreAsked, GuidesItems}
use Rattle.ice_manifest_values.specs.Met.{pair_ids, LeadsToMap}
use Rattle.ice_manifest_values.proofs.Guiding.{items_guide_for}
use Rattle.ice_manifest_values.proofs.pairs.guide_of_pairs.Goals as goal

pub returns-in-Some : goal.returns-in-Some
returns-in-Some c = λ met leads.
    let m = c.args.map in
    let l = subst (λ (o : Option GuidedObject). LeadsToMap m o met) c.in-Some.is leads in
    let same : to_z w32 (of_z w32 m.id) ≡ m.id = to_z-of_z w32 m.id (search rules) in
    let asks : AreAsked l.0 (pos 2 ∷ to_z w32 (of_z w32 m.id) ∷ []) =
    subst (λ (z : ℤ). AreAsked l.0 (pos 2 ∷ z ∷ [])) (sym same) l.5 in
    let found : GuidesItems l.0 c.items_guide.result met =
    subst (λ (p : Picked). GuidesItems l.0 c.items_guide.result p)
    (ap (λ (z : ℤ). pick (pos 2 ∷ z ∷ []) (l.1, l.2)) same ∙ l.4) (c.items_guide.ensures l.0 l.1 l.2 l.3 asks) in
    items_guide_for l.0 (pair_ids m) c.items_guide.result met found l.6
