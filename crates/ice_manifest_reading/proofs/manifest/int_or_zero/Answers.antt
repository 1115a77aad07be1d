use Rattle.std.proofs.Common.{◌≡◌, ℤ, to_z, of_z, w32, rules, true, false, Option, Some, None, is_some, refl, sym, ap}
use Rattle.std.proofs.Common.{◌∙◌}
use Rattle.std.proofs.lemmas.Int.{to_z-of_z}
use Rattle.std.specs.Option.{option_map}
use Rattle.avro_schema.specs.Tree.{Fields}
use Rattle.ice_manifest_fields.specs.Schemas.{fields_in, type_at}
use Rattle.ice_manifest_fields.specs.Seen.{fields_seen}
use Rattle.ice_manifest_fields.specs.Fields.{at, int_or_zero}
use Rattle.ice_manifest_values.specs.Met.{int_met}
use Rattle.ice_manifest_values.proofs.Said.{int_said}
use Rattle.ice_manifest_layouts.specs.Seen.{file_seen}
use Rattle.ice_manifest_layouts.specs.FieldPaths.{file_id}
use Rattle.ice_manifest_reading.proofs.Found.{file_fields_are}
use Rattle.ice_manifest_reading.proofs.manifest.int_or_zero.Goals as goal

some_mapped : {A B : Type 0} (f : A → B) (o : Option A) → is_some (option_map f o) ≡ is_some o
some_mapped {A} {B} f None = refl
some_mapped {A} {B} f (Some x) = refl

pub returns-then-is_none : goal.returns-then-is_none
unfolding int_or_zero
returns-then-is_none c =
    let f = c.args.file.now in
    let id : to_z w32 (of_z w32 c.id.result) ≡ c.id.result = to_z-of_z w32 c.id.result (search rules) in
    let gone : is_some (type_at (file_id c.args.field) (fields_in (file_seen f).0)) ≡ false =
    ap (λ (fs : Fields). is_some (type_at (file_id c.args.field) fs)) (file_fields_are f c.requires)
    ∙ ap (λ (z : ℤ). is_some (type_at z (fields_seen f.fields.now))) (sym (id ∙ c.id.ensures))
    ∙ ap is_some (sym c.type_at.ensures) ∙ some_mapped _ c.type_at.result ∙ c.if-is_none.ensures in
    rw gone refl

pub returns : goal.returns
unfolding int_or_zero
returns c =
    let f = c.args.file.now in
    let met = at (file_id c.args.field) (file_seen f) in
    let id : to_z w32 (of_z w32 c.id.result) ≡ c.id.result = to_z-of_z w32 c.id.result (search rules) in
    let again : to_z w32 (of_z w32 c.id-2.result) ≡ c.id-2.result = to_z-of_z w32 c.id-2.result (search rules) in
    let here : is_some (type_at (file_id c.args.field) (fields_in (file_seen f).0)) ≡ true =
    ap (λ (fs : Fields). is_some (type_at (file_id c.args.field) fs)) (file_fields_are f c.requires)
    ∙ ap (λ (z : ℤ). is_some (type_at z (fields_seen f.fields.now))) (sym (id ∙ c.id.ensures))
    ∙ ap is_some (sym c.type_at.ensures) ∙ some_mapped _ c.type_at.result ∙ c.if-is_none.ensures in
    rw here (c.int_asked.ensures met c.found.ensures ∙ ap (λ (z : ℤ). int_met z met) (again ∙ c.id-2.ensures)
    ∙ sym (int_said (file_id c.args.field) (file_seen f)))
