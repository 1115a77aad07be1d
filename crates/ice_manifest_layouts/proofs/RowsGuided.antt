-- Guides of the summaries of a manifest list's rows.
use Rattle.std.proofs.Common.{◌≡◌, ℤ, List, [], ◌∷◌, IfOk, IfSome, Option, Some, None, Result, Ok, Err, refl, sym, ap}
use Rattle.std.proofs.Common.{subst, ◌∙◌}
use denote.Ref.{Bor}
use Rattle.avro_schema.specs.Tree.{Tree}
use Rattle.avro_schema.specs.View.{tree}
use Rattle.avro_file.specs.Value.{Value}
use Rattle.avro_file.specs.Files.{Shows}
use Rattle.avro_file.specs.Picking.{Typed, Picked, absent, null_met, present, pick}
use Rattle.avro_file_picked.specs.declared.guide.Guide.{Guide}
use Rattle.avro_file_picked.specs.declared.guide.GuidedObject.{GuidedObject}
use Rattle.avro_file_picked.specs.Finding.{layout_tree, field_paths_of, items_type}
use Rattle.avro_file_picked.specs.Guides.{AreAsked, IsGuideOf, IsGuideFor, IsGuided, GuidesItems, MayGuide}
use Rattle.ice_manifest_fields.specs.Fields.{there, at}
use Rattle.ice_manifest_layouts.specs.declared.row.FoundRow.{FoundRow}
use Rattle.ice_manifest_values.specs.InPlace.{type_listed}
use Rattle.ice_manifest_layouts.specs.declared.row_field.RowField.{RowField}
use Rattle.ice_manifest_layouts.specs.declared.row_field.RowField.TheVariants as row
use Rattle.ice_manifest_layouts.specs.RowsFound.{row_id, row_seen, row_field_paths, summary_ids, value_read, IsRow}
use Rattle.ice_manifest_values.proofs.Guiding.{items_guide_for}

pub row_asked : (f : RowField) → AreAsked row_field_paths (row_id f ∷ [])
row_asked row.Path = (refl, tt)
row_asked row.Length = (refl, tt)
row_asked row.SpecId = (refl, tt)
row_asked row.AddedSnapshotId = (refl, tt)
row_asked row.AddedFiles = (refl, tt)
row_asked row.ExistingFiles = (refl, tt)
row_asked row.DeletedFiles = (refl, tt)
row_asked row.Partitions = (refl, tt)
row_asked row.AddedRows = (refl, tt)
row_asked row.ExistingRows = (refl, tt)
row_asked row.DeletedRows = (refl, tt)
row_asked row.SequenceNumber = (refl, tt)
row_asked row.MinSequenceNumber = (refl, tt)
row_asked row.Content = (refl, tt)

pub row_guided : (r : FoundRow) (g : GuidedObject) (found : Option (Bor Guide)) (id : ℤ) → IsRow r
    → ((v : Value) → Shows r.object v → IsGuided (field_paths_of r.layout.now) (layout_tree r.layout.now) v g)
    → ((field_paths : List (List ℤ)) (t : Tree) (v : Value) → IsGuided field_paths t v g
    → AreAsked field_paths (id ∷ [])
    → GuidesItems field_paths found (pick (id ∷ []) (t, v))) → AreAsked row_field_paths (id ∷ [])
    → MayGuide summary_ids found (at id (row_seen r))
unfolding row_seen
row_guided r g found id is shows guides asked =
    let v : Value = is.2.0 in
    let read : v ≡ (row_seen r).1 = sym (ap value_read is.2.1.1) in
    let object_is : (layout_tree r.layout.now, v) ≡ row_seen r =
    ap (λ (t : Tree). (t, v)) (sym is.1.1) ∙ ap (λ (w : Value). (tree r.object.schema.now, w)) read in
    let here = subst (λ (ws : List (List ℤ)). IsGuided ws (layout_tree r.layout.now) v g) is.0 (shows v is.2.1) in
    subst (λ (x : Typed). MayGuide summary_ids found (at id x)) object_is
    (items_guide_for row_field_paths summary_ids found (pick (id ∷ []) (layout_tree r.layout.now, v))
    (guides row_field_paths (layout_tree r.layout.now) v here asked) (refl, (refl, (refl, (refl, tt)))))
