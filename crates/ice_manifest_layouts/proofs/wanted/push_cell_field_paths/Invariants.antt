use Rattle.std.proofs.Common.{◌≡◌, ◌++◌, drop}
use Rattle.avro_file_picked.specs.Guides.{ids_in}
use Rattle.ice_manifest_layouts.specs.FieldPaths.{to_cells}
use Rattle.ice_manifest_layouts.proofs.wanted.push_cell_field_paths.Given as goal

abbrev pub invariant-partition : goal.invariant-partition
invariant-partition l = ids_in l.field_paths.items ++ to_cells (drop l.field-index l.partition)
    ≡ ids_in l.fn.field_paths.items ++ to_cells l.partition
