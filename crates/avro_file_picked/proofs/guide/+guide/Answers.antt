use Rattle.std.proofs.Common.{◌≡◌}
use Rattle.avro_schema.specs.View.{tree}
use Rattle.avro_file.proofs.Views.{field_trees, branch_trees, tree-Record}
use Rattle.avro_file_picked.specs.Guides.{ids_in, all_seen, kept, as_fields, inner, AreParts}
use Rattle.avro_file_picked.proofs.Guided.{parts_done, branches_done, guides_made}
use Rattle.avro_file_picked.proofs.guide.+guide.Goals as goal

pub branch_guides-returns : goal.branch_guides-returns
branch_guides-returns t c =
    branches_done (ids_in c.args.field_paths.now) c.branches.guides.items c.args.branches.now c.branches.branch-index
    (as_fields (branch_trees c.args.branches.now)) c.branches-test.false c.branches.invariant

pub field_guides-returns : goal.field_guides-returns
field_guides-returns t c =
    parts_done (ids_in c.args.field_paths.now) c.fields.guides.items c.args.fields.now c.fields.field-index
    (kept (ids_in c.args.field_paths.now) (field_trees c.args.fields.now)) c.fields-test.false c.fields.invariant

pub guide_of-returns-in_ok-parts-in-Record-clause-guide : goal.guide_of-returns-in_ok-parts-in-Record-clause-guide
guide_of-returns-in_ok-parts-in-Record-clause-guide t c =
    let field_paths = ids_in c.args.field_paths.now in
    let here : c.deref.result.now ≡ c.in-Record.fields.value = c.deref.ensures in
    let are : AreParts field_paths (all_seen c.in_ok-parts-in-Record.parts.items)
    (inner field_paths (tree c.args.schema.now)) =
    rw (c.in-Record.is, tree-Record c.in-Record.fields, ← here, ← c.deref-in-Record.ensures.value)
    c.in_ok-parts-in-Record.ensures in
    guides_made field_paths c.args.id (tree c.args.schema.now)
    (all_seen c.in_ok-parts-in-Record.parts.items) c.with_parts.result
    c.with_parts.ensures are
