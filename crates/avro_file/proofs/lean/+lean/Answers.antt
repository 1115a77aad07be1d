use Rattle.std.proofs.Common.{◌≡◌, sym}
use Rattle.avro_schema.specs.View.{tree}
use Rattle.avro_file.proofs.Views.{field_trees, branch_trees, tree-Record, tree-Map, tree-Union}
use Rattle.avro_file.proofs.Leaves.{tree-Array}
use Rattle.avro_file.proofs.Alike.{structure_alike, array_alike, map_alike, union_alike, field_kept, field_left}
use Rattle.avro_file.proofs.Alike.{branch_kept}
use Rattle.avro_file.proofs.lean.+lean.Goals as goal

pub lean_schema-returns-in_ok-new-in-Array : goal.lean_schema-returns-in_ok-new-in-Array
lean_schema-returns-in_ok-new-in-Array t c =
    let here : c.deref-in-Array.result.now ≡ c.in-Array.items.value = c.deref-in-Array.ensures in
    rw (
      c.in-Array.is,
      tree-Array c.in-Array.items c.in-Array.id c.in-Array.kind,
      tree-Array c.in_ok-new-in-Array.field-0 c.in-Array.id c.in-Array.kind,
      ← here,
      c.in_ok-new-in-Array.ensures.ok,
    )
    (array_alike (tree c.in_ok-items-in-Array.items) (tree c.deref-in-Array.result.now) c.in-Array.id c.in-Array.kind
    c.in_ok-items-in-Array.ensures)

pub lean_schema-returns-in_ok-new-in-Map : goal.lean_schema-returns-in_ok-new-in-Map
lean_schema-returns-in_ok-new-in-Map t c =
    let here : c.deref-in-Map.result.now ≡ c.in-Map.values.value = c.deref-in-Map.ensures in
    rw (
      c.in-Map.is,
      tree-Map c.in-Map.values,
      tree-Map c.in_ok-new-in-Map.field-0,
      ← here,
      c.in_ok-new-in-Map.ensures.ok,
    )
    (map_alike (tree c.in_ok-lean_schema-in-Map.field-0) (tree c.deref-in-Map.result.now)
    c.in_ok-lean_schema-in-Map.ensures)

pub lean_schema-returns-in_ok-new-in-Union : goal.lean_schema-returns-in_ok-new-in-Union
lean_schema-returns-in_ok-new-in-Union t c =
    let here : c.deref-in-Union.result.now ≡ c.in-Union.branches.value = c.deref-in-Union.ensures in
    rw (
      c.in-Union.is,
      tree-Union c.in-Union.branches,
      tree-Union c.in_ok-new-in-Union.field-0,
      ← here,
      ← c.deref-in-Union-2.ensures.value,
      c.in_ok-new-in-Union.ensures.ok,
    )
    (union_alike (branch_trees c.in_ok-branches-in-Union.branches.items) (branch_trees c.deref-in-Union-2.result.now)
    c.in_ok-branches-in-Union.ensures)

pub lean_schema-returns-in_ok-new-in-Record : goal.lean_schema-returns-in_ok-new-in-Record
lean_schema-returns-in_ok-new-in-Record t c =
    let here : c.deref.result.now ≡ c.in-Record.fields.value = c.deref.ensures in
    rw (
      c.in-Record.is,
      tree-Record c.in-Record.fields,
      tree-Record c.in_ok-new-in-Record.field-0,
      ← here,
      ← c.deref-in-Record.ensures.value,
      c.in_ok-new-in-Record.ensures.ok,
    )
    (structure_alike (field_trees c.in_ok-lean_fields-in-Record.field-0.items)
    (field_trees c.deref-in-Record.result.now)
    c.in_ok-lean_fields-in-Record.ensures)

-- ---- fields and branches

pub lean_fields-fields-preserved-then-not-takes_bytes : goal.lean_fields-fields-preserved-then-not-takes_bytes
lean_fields-fields-preserved-then-not-takes_bytes t c =
    field_left c.fields.kept.items c.args.fields.now c.args.fields.now c.fields.field-index c.field-item.result
    c.fields-test.true c.field-item.is (sym c.if-not-takes_bytes.ensures) c.fields.invariant

pub lean_fields-fields-preserved : goal.lean_fields-fields-preserved
lean_fields-fields-preserved t c =
    rw c.in_ok-push.ensures.items (field_kept c.fields.kept.items c.args.fields.now c.args.fields.now
    c.fields.field-index c.field-item.result (record { id = c.field-item.result.id; schema = c.in_ok-schema.schema })
    c.fields-test.true c.field-item.is c.in_ok-schema.ensures c.fields.invariant)

pub lean_branches-branches-preserved : goal.lean_branches-branches-preserved
lean_branches-branches-preserved t c =
    rw c.in_ok-push.ensures.items (branch_kept c.branches.kept.items c.args.branches.now c.args.branches.now
    c.branches.branch-index c.branch-item.result c.in_ok-lean_schema.field-0 c.branches-test.true c.branch-item.is
    c.in_ok-lean_schema.ensures c.branches.invariant)
