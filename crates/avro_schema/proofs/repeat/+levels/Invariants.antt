use Rattle.std.proofs.Common.{◌≡◌, drop}
use Rattle.avro_schema.specs.Size.{deepest_field, deepest_branch}
use Rattle.std.specs.Prelude.{nat_lt}
use Rattle.avro_schema.specs.View.{trees, parts, fields_of, branches_of}
use Rattle.avro_schema.proofs.repeat.+levels.Given as goal

abbrev pub invariant-any_branch_deeper-branches : goal.invariant-any_branch_deeper-branches
invariant-any_branch_deeper-branches l = nat_lt l.most
    (deepest_branch (branches_of (trees (drop l.branch-index l.branch-items)))) ≡ nat_lt l.most
    (deepest_branch (branches_of (trees l.branch-items)))

abbrev pub invariant-any_field_deeper-fields : goal.invariant-any_field_deeper-fields
invariant-any_field_deeper-fields l = nat_lt l.most
    (deepest_field (fields_of (parts (drop l.field-index l.field-items)))) ≡ nat_lt l.most
    (deepest_field (fields_of (parts l.field-items)))
