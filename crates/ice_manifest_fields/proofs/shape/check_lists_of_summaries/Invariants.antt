use Rattle.std.proofs.Common.{◌≡◌, drop}
use Rattle.avro_schema.specs.View.{trees, branches_of}
use Rattle.ice_manifest_fields.specs.Schemas.{lists_summaries, each_branch}
use Rattle.ice_manifest_fields.proofs.shape.check_lists_of_summaries.Given as goal

abbrev pub invariant-branches : goal.invariant-branches
invariant-branches l = each_branch lists_summaries (branches_of (trees (drop l.branch-index l.branches))) ≡ each_branch
    lists_summaries (branches_of (trees l.branches))
