use Rattle.std.proofs.Common.{◌≡◌, ℤ, List, [], ◌∷◌, to_z, of_z, w32, rules, subst, ◌∙◌}
use Rattle.std.proofs.lemmas.Int.{to_z-of_z}
use Rattle.avro_schema.specs.Tree.{Tree}
use Rattle.avro_file.specs.Value.{Value}
use Rattle.avro_file.specs.Picking.{pick}
use Rattle.avro_file_picked.specs.Guides.{AreAsked, IsGuided, GuidesItems}
use Rattle.ice_manifest_layouts.specs.RowsFound.{row_id}
use Rattle.ice_manifest_layouts.proofs.RowsGuided.{row_guided, row_asked}
use Rattle.ice_manifest_layouts.proofs.row.FoundRow.items_guide.Goals as goal

pub guided-requires : goal.guided-requires
guided-requires c = record { layout = c.requires.1.0; schema = c.requires.1.1 }

pub returns : goal.returns
returns c =
    let same : to_z w32 (of_z w32 c.id.result) ≡ row_id c.args.field =
    to_z-of_z w32 c.id.result (search rules) ∙ c.id.ensures in
    row_guided c.args.self.now c.in_ok-guided.guided c.items_guide.result (row_id c.args.field) c.requires
    c.in_ok-guided.ensures
    (subst (λ (z : ℤ). (field_paths : List (List ℤ)) (t : Tree) (v : Value)
    → IsGuided field_paths t v c.in_ok-guided.guided
    → AreAsked field_paths (z ∷ []) → GuidesItems field_paths c.items_guide.result (pick (z ∷ []) (t, v))) same
    c.items_guide.ensures) (row_asked c.args.field)
