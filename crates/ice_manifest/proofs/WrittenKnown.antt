-- The schemas of lists and manifests are read as their trees.
use Rattle.std.proofs.Common.{◌≡◌, ℕ, ◌≤◌, true, List}
use Rattle.std.proofs.Common.{[], refl, lit≤}
use Rattle.std.specs.Prelude.{Ok, Some}
use Rattle.std.specs.Str.{is_utf8}
use Rattle.serde_json.specs.Read.{read}
use Rattle.avro_schema.specs.Size.{height, deepest_field, deepest_branch, nodes, below, in_fields, in_branches}
use Rattle.avro_schema.specs.Names.{dotted}
use Rattle.avro_schema.specs.Texts.{schema_of, most_nodes}
use Rattle.ice_manifest.specs.WrittenTypes.{json_of, written_tree}
use Rattle.ice_manifest.specs.WrittenSchemas.{list_type}
use Rattle.ice_manifest.proofs.WrittenRead.{schema_read, fine, different, names_in}

list_fine : fine list_type ≡ true
unfolding list_type dotted
list_fine = refl

list_different : different [] (names_in list_type) ≡ true
unfolding list_type
list_different = refl

pub list_height : height (written_tree list_type) ≤ 31
unfolding list_type height deepest_field deepest_branch
list_height = lit≤ tt

list_nodes : nodes (written_tree list_type) ≤ most_nodes
unfolding list_type below in_fields in_branches
list_nodes = lit≤ tt

pub list_read : (text : List ℕ) → is_utf8 text ≡ true → read text ≡ Some (json_of list_type)
    → schema_of text ≡ Ok (written_tree list_type)
list_read text utf8 said = schema_read list_type text utf8 said list_fine list_different list_height list_nodes
