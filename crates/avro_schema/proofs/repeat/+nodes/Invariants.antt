use Rattle.std.proofs.Common.{◌≡◌, drop}
use Rattle.avro_schema.specs.Size.{left_after, in_fields, in_branches}
use Rattle.avro_schema.specs.View.{trees, parts, fields_of, branches_of}
use Rattle.avro_schema.proofs.repeat.+nodes.Given as goal

abbrev pub invariant-spend_branches-branches : goal.invariant-spend_branches-branches
invariant-spend_branches-branches l = left_after l.now
    (in_branches (branches_of (trees (drop l.branch-index l.branch-items)))) ≡ left_after l.left
    (in_branches (branches_of (trees l.branch-items)))

abbrev pub invariant-spend_fields-fields : goal.invariant-spend_fields-fields
invariant-spend_fields-fields l = left_after l.now (in_fields (fields_of (parts (drop l.field-index l.field-items))))
    ≡ left_after l.left (in_fields (fields_of (parts l.field-items)))
