use Rattle.std.proofs.Common.{◌≡◌, ◌++◌, drop}
use Rattle.avro_file_picked.specs.Guides.{ids_in}
use Rattle.ice_manifest_layouts.specs.RowsFound.{to_fields}
use Rattle.ice_manifest_layouts.proofs.row_field.field_paths_to.Given as goal

abbrev pub invariant-fields : goal.invariant-fields
invariant-fields l = ids_in l.field_paths.items ++ to_fields (drop l.field-index l.fields) ≡ to_fields l.fields
