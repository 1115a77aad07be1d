-- What is found of a manifest list's row.
use Rattle.std.proofs.Common.{◌≡◌, ℕ, ℤ, List, Option, sym, ap, subst, ◌∙◌}
use Rattle.avro_schema.specs.Tree.{Tree}
use Rattle.avro_schema.specs.View.{tree}
use Rattle.avro_file.specs.Value.{Value}
use Rattle.avro_file.specs.Files.{Shows}
use Rattle.avro_file.specs.Picking.{Typed, pick}
use Rattle.avro_file_picked.specs.declared.found.Found.{Found}
use Rattle.avro_file_picked.specs.Finding.{layout_tree, IsMet}
use Rattle.avro_file_picked.specs.Placing.{nth_field_path, field_path_of}
use Rattle.ice_manifest_fields.specs.Fields.{at}
use Rattle.ice_manifest_layouts.specs.declared.row_field.RowField.{RowField}
use Rattle.ice_manifest_layouts.specs.declared.row.FoundRow.{FoundRow}
use Rattle.ice_manifest_layouts.specs.RowsFound.{row_id, to_field, value_read, row_seen, IsRow, IsNumberOf}

-- what stands at a field's place stands at the field
pub shown : (r : FoundRow) (found : Option Found) (k : ℕ) (f : RowField) → IsRow r → IsNumberOf f k
    → ((v : Value) → Shows r.object v → IsMet found (pick (field_path_of r.layout.now k) (layout_tree r.layout.now, v)))
    → IsMet found (at (row_id f) (row_seen r))
unfolding row_seen
shown r found k f is number finds =
    let v : Value = is.2.0 in
    let field_path_is : field_path_of r.layout.now k ≡ to_field f = ap
    (λ (ws : List (List ℤ)). nth_field_path ws k) is.0 ∙ number.1 in
    let read : v ≡ (row_seen r).1 = sym (ap value_read is.2.1.1) in
    let object_is : (layout_tree r.layout.now, v) ≡ row_seen r =
    ap (λ (t : Tree). (t, v)) (sym is.1.1) ∙ ap (λ (w : Value). (tree r.object.schema.now, w)) read in
    subst (λ (w : List ℤ). IsMet found (pick w (row_seen r))) field_path_is
    (subst (λ (x : Typed). IsMet found (pick (field_path_of r.layout.now k) x)) object_is (finds v is.2.1))

-- the object and its type
pub row_is : (r : FoundRow) (v : Value) → Shows r.object v → row_seen r ≡ (tree r.object.schema.now, v)
unfolding row_seen
row_is r v is = ap (λ (w : Value). (tree r.object.schema.now, w)) (ap value_read is.1)
