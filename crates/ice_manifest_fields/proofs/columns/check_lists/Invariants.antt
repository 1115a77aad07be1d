use Rattle.std.proofs.Common.{◌≡◌, drop}
use Rattle.avro_schema.specs.View.{trees, branches_of}
use Rattle.ice_manifest_fields.specs.Schemas.{lists_pairs, each_branch}
use Rattle.ice_manifest_fields.proofs.columns.check_lists.Given as goal

abbrev pub invariant-branches : goal.invariant-branches
invariant-branches l = each_branch (lists_pairs l.map) (branches_of (trees (drop l.branch-index l.branches)))
    ≡ each_branch (lists_pairs l.map) (branches_of (trees l.branches))
