use Rattle.std.proofs.Common.{◌≡◌, drop}
use Rattle.avro_schema.specs.View.{trees, branches_of}
use Rattle.ice_manifest_fields.specs.Schemas.{is_pair, each_branch}
use Rattle.ice_manifest_fields.proofs.columns.check_pairs.Given as goal

abbrev pub invariant-branches : goal.invariant-branches
invariant-branches l = each_branch (is_pair l.map) (branches_of (trees (drop l.branch-index l.branches))) ≡ each_branch
    (is_pair l.map) (branches_of (trees l.branches))
