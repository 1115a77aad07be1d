use Rattle.std.proofs.Common.{◌≡◌, drop}
use Rattle.ice_manifest_fields.specs.Seen.{fields_seen}
use Rattle.ice_manifest_reading.specs.ManifestSchemas.{cells_fit}
use Rattle.ice_manifest_reading.proofs.tuple.check_cells.Given as goal

abbrev pub invariant-partition : goal.invariant-partition
invariant-partition l = cells_fit (drop l.wanted-index l.partition) (fields_seen l.fields) ≡ cells_fit l.partition
    (fields_seen l.fields)
