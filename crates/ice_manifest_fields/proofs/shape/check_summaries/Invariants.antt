use Rattle.std.proofs.Common.{◌≡◌, drop}
use Rattle.avro_schema.specs.View.{trees, branches_of}
use Rattle.ice_manifest_fields.specs.Schemas.{is_summary, each_branch}
use Rattle.ice_manifest_fields.proofs.shape.check_summaries.Given as goal

abbrev pub invariant-branches : goal.invariant-branches
invariant-branches l = each_branch is_summary (branches_of (trees (drop l.branch-index l.branches))) ≡ each_branch
    is_summary (branches_of (trees l.branches))
