use Rattle.std.proofs.Common.{◌≡◌, Some, drop}
use Rattle.avro_file_picked.specs.Guides.{ids_in, asks}
use Rattle.avro_file_picked.proofs.guide.asks.Given as goal

abbrev pub invariant-field_paths : goal.invariant-field_paths
invariant-field_paths l = asks (ids_in (drop l.field_path-index l.field_paths)) (Some l.id) ≡ asks
    (ids_in l.field_paths) (Some l.id)
