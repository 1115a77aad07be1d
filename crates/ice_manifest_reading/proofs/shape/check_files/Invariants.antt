use Rattle.std.proofs.Common.{◌≡◌, drop}
use Rattle.avro_schema.specs.View.{trees, branches_of}
use Rattle.ice_manifest_fields.specs.Schemas.{each_branch}
use Rattle.ice_manifest_reading.specs.ManifestSchemas.{is_file}
use Rattle.ice_manifest_reading.proofs.shape.check_files.Given as goal

abbrev pub invariant-branches : goal.invariant-branches
invariant-branches l = each_branch (is_file l.partition) (branches_of (trees (drop l.branch-index l.branches)))
    ≡ each_branch (is_file l.partition) (branches_of (trees l.branches))
