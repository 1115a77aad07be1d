use Rattle.std.proofs.Common.{◌≡◌, ℤ, [], ◌∷◌, to_z, of_z, w32, rules, sym, ap, subst, ◌∙◌}
use Rattle.std.proofs.lemmas.Int.{to_z-of_z}
use Rattle.std.proofs.lemmas.Result.{err_from_is_err_and}
use Rattle.avro_schema.specs.View.{tree}
use Rattle.avro_file_picked.specs.Finding.{IsMet}
use Rattle.avro_file_picked.specs.Guides.{AreAsked, IsGuideFor}
use Rattle.ice_manifest_fields.specs.Fields.{asked, at, int_at}
use Rattle.ice_manifest_values.specs.Met.{pair_ids}
use Rattle.ice_manifest_values.proofs.Itself.{key_asked, said_asked, bound_itself}
use Rattle.ice_manifest_values.proofs.PairsSaid.{bound_made, bound_without_column, bound_without_bytes}
use Rattle.ice_manifest_values.proofs.pairs.bound_of.Goals as goal

pub returns-in_err-column : goal.returns-in_err-column
returns-in_err-column c =
    let m = c.args.map in
    let t = tree c.args.item.now.schema.now in
    let key : to_z w32 (of_z w32 m.key) ≡ m.key = to_z-of_z w32 m.key (search rules) in
    let key_there : (guide : IsGuideFor (pair_ids m) t c.args.guide.now)
    → AreAsked guide.0 (to_z w32 (of_z w32 m.key) ∷ []) =
    λ guide. subst (λ (z : ℤ). AreAsked guide.0 (z ∷ [])) (sym key) (key_asked guide.0 m guide.2) in
    let p = err_from_is_err_and c.from_residual.result c.from_residual.ensures.1 in
    rw (p.1, p.2) (λ v guide is. bound_without_column m (t, v) c.in_err-column.field-0.0
    (c.in_err-column.ensures guide.0 t v guide.1 (key_there guide) is ∙ ap (λ (z : ℤ). int_at z (t, v)) key)
    ∙ sym (bound_itself m (t, v)))

pub returns-in-Some : goal.returns-in-Some
returns-in-Some c = λ v guide is.
    let m = c.args.map in
    let t = tree c.args.item.now.schema.now in
    let key : to_z w32 (of_z w32 m.key) ≡ m.key = to_z-of_z w32 m.key (search rules) in
    let said : to_z w32 (of_z w32 m.said) ≡ m.said = to_z-of_z w32 m.said (search rules) in
    let key_there : (guide : IsGuideFor (pair_ids m) t c.args.guide.now)
    → AreAsked guide.0 (to_z w32 (of_z w32 m.key) ∷ []) =
    λ guide. subst (λ (z : ℤ). AreAsked guide.0 (z ∷ [])) (sym key) (key_asked guide.0 m guide.2) in
    let column : to_z w32 (of_z w32 c.in_ok-column.column) ≡ c.in_ok-column.column =
    to_z-of_z w32 c.in_ok-column.column (search rules) in
    let said_there : (guide : IsGuideFor (pair_ids m) t c.args.guide.now)
    → AreAsked guide.0 (to_z w32 (of_z w32 m.said) ∷ []) =
    λ guide. subst (λ (z : ℤ). AreAsked guide.0 (z ∷ [])) (sym said) (said_asked guide.0 m guide.2) in
    let found : IsMet c.found.result (at m.said (t, v)) = subst (λ (z : ℤ). IsMet c.found.result (at z (t, v))) said
    (c.found.ensures guide.0 t v guide.1 (said_there guide) is) in
    rw column (bound_made m (t, v) c.in_ok-column.column c.in-Some.bound.now
    (c.in_ok-column.ensures guide.0 t v guide.1 (key_there guide) is ∙ ap (λ (z : ℤ). int_at z (t, v)) key)
    (ap (asked m.said) (c.in-Some.ensures (at m.said (t, v)) found)) ∙ sym (bound_itself m (t, v)))

pub returns-in-None : goal.returns-in-None
returns-in-None c = λ v guide is.
    let m = c.args.map in
    let t = tree c.args.item.now.schema.now in
    let key : to_z w32 (of_z w32 m.key) ≡ m.key = to_z-of_z w32 m.key (search rules) in
    let said : to_z w32 (of_z w32 m.said) ≡ m.said = to_z-of_z w32 m.said (search rules) in
    let key_there : (guide : IsGuideFor (pair_ids m) t c.args.guide.now)
    → AreAsked guide.0 (to_z w32 (of_z w32 m.key) ∷ []) =
    λ guide. subst (λ (z : ℤ). AreAsked guide.0 (z ∷ [])) (sym key) (key_asked guide.0 m guide.2) in
    let said_there : (guide : IsGuideFor (pair_ids m) t c.args.guide.now)
    → AreAsked guide.0 (to_z w32 (of_z w32 m.said) ∷ []) =
    λ guide. subst (λ (z : ℤ). AreAsked guide.0 (z ∷ [])) (sym said) (said_asked guide.0 m guide.2) in
    let found : IsMet c.found.result (at m.said (t, v)) = subst (λ (z : ℤ). IsMet c.found.result (at z (t, v))) said
    (c.found.ensures guide.0 t v guide.1 (said_there guide) is) in
    rw said (bound_without_bytes m (t, v) c.in_ok-column.column _
    (c.in_ok-column.ensures guide.0 t v guide.1 (key_there guide) is ∙ ap (λ (z : ℤ). int_at z (t, v)) key)
    (ap (asked m.said) (c.in-None.ensures (at m.said (t, v)) found)) ∙ sym (bound_itself m (t, v)))
