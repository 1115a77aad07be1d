use Rattle.std.proofs.Common.{◌≡◌, ◌++◌, List, drop}
use Rattle.avro_schema.specs.Tree.{Tree}
use Rattle.avro_file.proofs.Views.{field_trees}
use Rattle.avro_file_picked.specs.Rows.{row_of, trees_of, AreAlike}
use Rattle.avro_file_picked.proofs.row.+steps.Given as goal

abbrev pub invariant-push_fields-fields : goal.invariant-push_fields-fields
invariant-push_fields-fields l = (ts : List Tree) → AreAlike (trees_of l.fn.steps.items) ts
    → (us : List Tree) × AreAlike (trees_of l.steps.items) us
    × (us ++ row_of (field_trees (drop l.field-index l.fields)) ≡ ts ++ row_of (field_trees l.fields))
