use Rattle.std.proofs.Common.{◌≡◌, map, take}
use Rattle.avro_schema.specs.View.{tree}
use Rattle.avro_file_picked.specs.Rows.{AreLeads}
use Rattle.avro_file_picked.proofs.layout.Layout.new.Given as goal

abbrev pub invariant-field_paths : goal.invariant-field_paths
invariant-field_paths l =
    (map (λ field_path. field_path.items) l.kept.items ≡ map (λ field_path. field_path.items)
    (take l.field_path-index l.field_paths))
    × AreLeads (tree l.schema) l.kept.items l.leads.items
