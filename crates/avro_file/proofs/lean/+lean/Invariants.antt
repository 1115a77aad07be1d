use Rattle.std.proofs.Common.{◌++◌, drop}
use Rattle.avro_file.specs.Alike.{FieldsEndAlike, BranchesEndAlike}
use Rattle.avro_file.proofs.Views.{field_trees, branch_trees}
use Rattle.avro_file.proofs.lean.+lean.Given as goal

abbrev pub invariant-lean_fields-fields : goal.invariant-lean_fields-fields
invariant-lean_fields-fields l =
    FieldsEndAlike (field_trees (l.kept.items ++ drop l.field-index l.fields)) (field_trees l.fields)

abbrev pub invariant-lean_branches-branches : goal.invariant-lean_branches-branches
invariant-lean_branches-branches l =
    BranchesEndAlike (branch_trees (l.kept.items ++ drop l.branch-index l.branches)) (branch_trees l.branches)
