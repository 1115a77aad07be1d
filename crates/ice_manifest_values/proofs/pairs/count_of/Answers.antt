use Rattle.std.proofs.Common.{◌≡◌, ℤ, [], ◌∷◌, to_z, of_z, w32, w64, rules, sym, ap, subst, ◌∙◌}
use Rattle.std.proofs.lemmas.Int.{to_z-of_z}
use Rattle.std.proofs.lemmas.Result.{err_from_is_err_and}
use Rattle.avro_schema.specs.View.{tree}
use Rattle.avro_file_picked.specs.Guides.{AreAsked, IsGuideFor}
use Rattle.ice_manifest_fields.specs.Fields.{int_at, long_at}
use Rattle.ice_manifest_values.specs.Met.{pair_ids}
use Rattle.ice_manifest_values.proofs.Itself.{key_asked, said_asked, count_itself}
use Rattle.ice_manifest_values.proofs.PairsSaid.{count_made, count_without_column, count_without_number}
use Rattle.ice_manifest_values.proofs.pairs.count_of.Goals as goal

pub returns-in_err-int_in : goal.returns-in_err-int_in
returns-in_err-int_in c =
    let m = c.args.map in
    let t = tree c.args.item.now.schema.now in
    let key : to_z w32 (of_z w32 m.key) ≡ m.key = to_z-of_z w32 m.key (search rules) in
    let key_there : (guide : IsGuideFor (pair_ids m) t c.args.guide.now)
    → AreAsked guide.0 (to_z w32 (of_z w32 m.key) ∷ []) =
    λ guide. subst (λ (z : ℤ). AreAsked guide.0 (z ∷ [])) (sym key) (key_asked guide.0 m guide.2) in
    let p = err_from_is_err_and c.from_residual.result c.from_residual.ensures.1 in
    rw (p.1, p.2) (λ v guide is. count_without_column m (t, v) c.in_err-int_in.field-0.0
    (c.in_err-int_in.ensures guide.0 t v guide.1 (key_there guide) is ∙ ap (λ (z : ℤ). int_at z (t, v)) key)
    ∙ sym (count_itself m (t, v)))

pub returns-in_err-long_in : goal.returns-in_err-long_in
returns-in_err-long_in c =
    let m = c.args.map in
    let t = tree c.args.item.now.schema.now in
    let key : to_z w32 (of_z w32 m.key) ≡ m.key = to_z-of_z w32 m.key (search rules) in
    let said : to_z w32 (of_z w32 m.said) ≡ m.said = to_z-of_z w32 m.said (search rules) in
    let key_there : (guide : IsGuideFor (pair_ids m) t c.args.guide.now)
    → AreAsked guide.0 (to_z w32 (of_z w32 m.key) ∷ []) =
    λ guide. subst (λ (z : ℤ). AreAsked guide.0 (z ∷ [])) (sym key) (key_asked guide.0 m guide.2) in
    let said_there : (guide : IsGuideFor (pair_ids m) t c.args.guide.now)
    → AreAsked guide.0 (to_z w32 (of_z w32 m.said) ∷ []) =
    λ guide. subst (λ (z : ℤ). AreAsked guide.0 (z ∷ [])) (sym said) (said_asked guide.0 m guide.2) in
    let p = err_from_is_err_and c.from_residual-in_err-long_in.result c.from_residual-in_err-long_in.ensures.1 in
    rw (p.1, p.2) (λ v guide is. count_without_number m (t, v) c.in_ok-int_in.field-0 c.in_err-long_in.field-0.0
    (c.in_ok-int_in.ensures guide.0 t v guide.1 (key_there guide) is ∙ ap (λ (z : ℤ). int_at z (t, v)) key)
    (c.in_err-long_in.ensures guide.0 t v guide.1 (said_there guide) is ∙ ap (λ (z : ℤ). long_at z (t, v)) said)
    ∙ sym (count_itself m (t, v)))

pub returns : goal.returns
returns c = λ v guide is.
    let m = c.args.map in
    let t = tree c.args.item.now.schema.now in
    let key : to_z w32 (of_z w32 m.key) ≡ m.key = to_z-of_z w32 m.key (search rules) in
    let said : to_z w32 (of_z w32 m.said) ≡ m.said = to_z-of_z w32 m.said (search rules) in
    let key_there : (guide : IsGuideFor (pair_ids m) t c.args.guide.now)
    → AreAsked guide.0 (to_z w32 (of_z w32 m.key) ∷ []) =
    λ guide. subst (λ (z : ℤ). AreAsked guide.0 (z ∷ [])) (sym key) (key_asked guide.0 m guide.2) in
    let said_there : (guide : IsGuideFor (pair_ids m) t c.args.guide.now)
    → AreAsked guide.0 (to_z w32 (of_z w32 m.said) ∷ []) =
    λ guide. subst (λ (z : ℤ). AreAsked guide.0 (z ∷ [])) (sym said) (said_asked guide.0 m guide.2) in
    let column : to_z w32 (of_z w32 c.in_ok-int_in.field-0) ≡ c.in_ok-int_in.field-0 =
    to_z-of_z w32 c.in_ok-int_in.field-0 (search rules) in
    let count : to_z w64 (of_z w64 c.in_ok-long_in.field-0) ≡ c.in_ok-long_in.field-0 =
    to_z-of_z w64 c.in_ok-long_in.field-0 (search rules) in
    rw (column, count) (count_made m (t, v) c.in_ok-int_in.field-0 c.in_ok-long_in.field-0
    (c.in_ok-int_in.ensures guide.0 t v guide.1 (key_there guide) is ∙ ap (λ (z : ℤ). int_at z (t, v)) key)
    (c.in_ok-long_in.ensures guide.0 t v guide.1 (said_there guide) is ∙ ap (λ (z : ℤ). long_at z (t, v)) said)
    ∙ sym (count_itself m (t, v)))
