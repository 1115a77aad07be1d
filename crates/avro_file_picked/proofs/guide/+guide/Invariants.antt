use Rattle.std.proofs.Common.{◌++◌, List, map, drop}
use Rattle.avro_file.proofs.Views.{field_trees, branch_trees}
use Rattle.avro_file_picked.specs.Guides.{Guided, guides_of, seen, ids_in, kept, as_fields, AreParts}
use Rattle.avro_file_picked.proofs.guide.+guide.Given as goal

-- with guides of what is still to come, those that were made are all
abbrev pub invariant-field_guides-fields : goal.invariant-field_guides-fields
invariant-field_guides-fields l = (more : List Guided)
    → AreParts (ids_in l.field_paths) (guides_of more)
    (kept (ids_in l.field_paths) (field_trees (drop l.field-index l.fields)))
    → AreParts (ids_in l.field_paths) (guides_of (map seen l.guides.items ++ more))
    (kept (ids_in l.field_paths) (field_trees l.fields))

abbrev pub invariant-branch_guides-branches : goal.invariant-branch_guides-branches
invariant-branch_guides-branches l = (more : List Guided)
    → AreParts (ids_in l.field_paths) (guides_of more) (as_fields (branch_trees (drop l.branch-index l.branches)))
    → AreParts (ids_in l.field_paths) (guides_of (map seen l.guides.items ++ more))
    (as_fields (branch_trees l.branches))
