use Rattle.std.proofs.Common.{◌≡◌, map, option_map, take}
use Rattle.avro_schema.specs.View.{tree}
use Rattle.avro_file.specs.Value.{Value}
use Rattle.avro_file.specs.View.{view}
use Rattle.avro_file.specs.Files.{Shows}
use Rattle.avro_file_picked.specs.Picked.{picked}
use Rattle.avro_file_picked.proofs.layout.Layout.picked.Given as goal

abbrev pub invariant-field_paths : goal.invariant-field_paths
invariant-field_paths l = (v : Value) → Shows l.object v → map (option_map view) l.found.items ≡ map
    (λ field_path. picked (tree l.object.schema.now) v field_path.items) (take l.field_path-index l.field_path-items)
