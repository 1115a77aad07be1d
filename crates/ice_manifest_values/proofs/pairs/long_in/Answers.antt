use Rattle.std.proofs.Common.{◌≡◌, ℤ, [], ◌∷◌, to_z, of_z, w32, rules, sym, ap, subst, ◌∙◌}
use Rattle.std.proofs.lemmas.Int.{to_z-of_z}
use Rattle.avro_file_picked.specs.Finding.{IsMet}
use Rattle.avro_file_picked.specs.Guides.{AreAsked}
use Rattle.ice_manifest_fields.specs.Fields.{at}
use Rattle.ice_manifest_values.specs.Met.{long_met}
use Rattle.ice_manifest_values.proofs.pairs.long_in.Goals as goal

pub returns : goal.returns
returns c = λ field_paths t v is asked there.
    let same : to_z w32 (of_z w32 c.args.id) ≡ c.args.id = to_z-of_z w32 c.args.id (search rules) in
    let met = at c.args.id (t, v) in
    let asks : AreAsked field_paths (to_z w32 (of_z w32 c.args.id) ∷ []) = subst
    (λ (z : ℤ). AreAsked field_paths (z ∷ [])) (sym same)
    asked in
    let found : IsMet c.found.result met = subst (λ (z : ℤ). IsMet c.found.result (at z (t, v))) same
    (c.found.ensures field_paths t v is asks there) in
    c.long_asked.ensures met found ∙ ap (λ (z : ℤ). long_met z met) same
