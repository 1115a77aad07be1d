use Rattle.std.proofs.Common.{◌≡◌, drop}
use Rattle.avro_schema.specs.View.{trees, branches_of}
use Rattle.ice_manifest_fields.specs.Schemas.{each_branch}
use Rattle.ice_manifest_reading.specs.ManifestSchemas.{is_tuple}
use Rattle.ice_manifest_reading.proofs.tuple.check_tuples.Given as goal

abbrev pub invariant-branches : goal.invariant-branches
invariant-branches l = each_branch (is_tuple l.partition) (branches_of (trees (drop l.branch-index l.branches)))
    ≡ each_branch (is_tuple l.partition) (branches_of (trees l.branches))
