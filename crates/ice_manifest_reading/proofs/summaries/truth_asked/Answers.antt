use Rattle.std.proofs.Common.{◌≡◌, ℤ, [], ◌∷◌, to_z, of_z, w32, rules, sym, ap, subst, ◌∙◌}
use Rattle.std.proofs.lemmas.Int.{to_z-of_z}
use Rattle.avro_file_picked.specs.Guides.{AreAsked}
use Rattle.ice_manifest_fields.specs.Fields.{asked, optional_truth}
use Rattle.ice_manifest_reading.proofs.summaries.truth_asked.Goals as goal

pub returns-in-Some : goal.returns-in-Some
returns-in-Some c = λ field_paths t v is on there.
    let same : to_z w32 (of_z w32 c.args.id) ≡ c.args.id = to_z-of_z w32 c.args.id (search rules) in
    let asks : AreAsked field_paths (to_z w32 (of_z w32 c.args.id) ∷ []) = subst
    (λ (z : ℤ). AreAsked field_paths (z ∷ [])) (sym same)
    on in
    ap (asked c.args.id) (c.in-Some.ensures field_paths t v is asks there
    ∙ ap (λ (z : ℤ). optional_truth z (t, v)) same)

pub returns-in-None : goal.returns-in-None
returns-in-None c = λ field_paths t v is on there.
    let same : to_z w32 (of_z w32 c.args.id) ≡ c.args.id = to_z-of_z w32 c.args.id (search rules) in
    let asks : AreAsked field_paths (to_z w32 (of_z w32 c.args.id) ∷ []) = subst
    (λ (z : ℤ). AreAsked field_paths (z ∷ [])) (sym same)
    on in
    rw same (ap (asked c.args.id) (c.in-None.ensures field_paths t v is asks there
    ∙ ap (λ (z : ℤ). optional_truth z (t, v)) same))
