use Rattle.std.proofs.Common.{◌≡◌, ℤ, to_z, of_z, w32, rules, Bool, true, false, Option, Some, None, is_some, is_none}
use Rattle.std.proofs.Common.{not, refl, ap, ◌∙◌}
use Rattle.std.proofs.lemmas.Int.{to_z-of_z}
use Rattle.std.specs.Option.{option_map}
use Rattle.avro_schema.specs.declared.schema.Schema.{Schema}
use Rattle.avro_schema.specs.Tree.{Tree}
use Rattle.avro_schema.specs.View.{tree}
use Rattle.ice_manifest_fields.specs.Schemas.{fields_in, type_at}
use Rattle.ice_manifest_fields.specs.Seen.{fields_seen}
use Rattle.ice_manifest_layouts.specs.RowsFound.{row_id, row_seen}
use Rattle.ice_manifest_layouts.proofs.row.FoundRow.lacks.Goals as goal

none_mapped : {A B : Type 0} (f : A → B) (o : Option A) (b : Bool) → is_some o ≡ not b → b ≡ is_none (option_map f o)
none_mapped f None true e = refl
none_mapped f None false e = absurd cc
none_mapped f (Some x) true e = absurd cc
none_mapped f (Some x) false e = refl

pub returns : goal.returns
unfolding row_seen
returns c =
    let id : to_z w32 (of_z w32 c.id.result) ≡ c.id.result = to_z-of_z w32 c.id.result (search rules) in
    none_mapped _ c.type_at.result c.is_none.result c.is_none.ensures
    ∙ ap (λ (o : Option Tree). is_none o) (c.type_at.ensures
    ∙ ap (λ (z : ℤ). type_at z (fields_seen c.fields_of.result.now)) (id ∙ c.id.ensures)
    ∙ ap (type_at (row_id c.args.field)) (c.fields_of.ensures
    ∙ ap (λ (s : Schema). fields_in (tree s)) c.schema.ensures))
