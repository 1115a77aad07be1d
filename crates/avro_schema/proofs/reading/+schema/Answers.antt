use Rattle.std.proofs.Common.{◌≡◌, [], ◌∷◌, ◌++◌, arith}
use Rattle.std.proofs.lemmas.Result.{err_from_is_err_and}
use Rattle.std.proofs.lemmas.List.{map_push}
use Rattle.avro_schema.specs.View.{tree, trees, parts}
use Rattle.avro_schema.specs.Reading.{whatever_before, field_at, tree_at}
use Rattle.avro_schema.specs.Met.{met}
use Rattle.avro_schema.specs.declared.reading.Role.TheVariants.{Branch, Elsewhere}
use Rattle.avro_schema.proofs.Loop.{each_on, each_fails, each_done, one_more, no_level, none_left}
use Rattle.avro_schema.proofs.reading.+schema.Goals as goal

pub branches_of-returns-in_err-schema : goal.branches_of-returns-in_err-schema
branches_of-returns-in_err-schema t c =
    let p = err_from_is_err_and c.from_residual.result c.from_residual.ensures.1 in
    rw (p.1, p.2, ← c.deref-item-items.ensures.value) (each_fails c.in_err-schema.field-0.0
    (whatever_before (tree_at c.args.most Branch c.args.space.now)) _ c.deref-item-items.result.now
    c.branches.item-index c.item-item.result _ _ c.branches-test.true c.item-item.is c.in_err-schema.ensures
    c.branches.invariant)

pub branches_of-branches-preserved : goal.branches_of-branches-preserved
branches_of-branches-preserved t c =
    let e : trees c.push.new.self.items ≡ trees c.branches.branches.items ++ tree c.in_ok-schema.schema ∷ [] =
    rw c.in_ok-push.ensures.items (map_push _ c.branches.branches.items c.in_ok-schema.schema) in
    rw e (each_on (whatever_before (tree_at c.args.most Branch c.args.space.now)) _ c.deref-item-items.result.now
    c.branches.item-index c.item-item.result _ _ _ _ c.branches-test.true c.item-item.is c.in_ok-schema.ensures
    c.branches.invariant)

pub branches_of-returns : goal.branches_of-returns
branches_of-returns t c = rw (← c.deref-item-items.ensures.value)
    (each_done (whatever_before (tree_at c.args.most Branch c.args.space.now)) _ c.deref-item-items.result.now
    c.branches.item-index _ _ c.branches-test.false c.branches.invariant)

pub fields_of-returns-in_err-field : goal.fields_of-returns-in_err-field
fields_of-returns-in_err-field t c =
    let p = err_from_is_err_and c.from_residual.result c.from_residual.ensures.1 in
    rw (p.1, p.2, ← c.deref-item-items.ensures.value) (each_fails c.in_err-field.field-0.0
    (field_at (tree_at c.args.most Elsewhere c.args.space.now)) _ c.deref-item-items.result.now c.fields.item-index
    c.item-item.result _ _ c.fields-test.true c.item-item.is c.in_err-field.ensures c.fields.invariant)

pub fields_of-fields-preserved : goal.fields_of-fields-preserved
fields_of-fields-preserved t c =
    let e : parts c.push.new.self.items ≡ parts c.fields.fields.items ++ (
      c.in_ok-field.field.id,
      tree
          c.in_ok-field.field.schema,
    ) ∷ [] = rw c.in_ok-push.ensures.items (map_push _ c.fields.fields.items
    c.in_ok-field.field) in
    rw e (each_on (field_at (tree_at c.args.most Elsewhere c.args.space.now)) _ c.deref-item-items.result.now
    c.fields.item-index c.item-item.result _ _ _ _ c.fields-test.true c.item-item.is c.in_ok-field.ensures
    c.fields.invariant)

pub fields_of-returns : goal.fields_of-returns
fields_of-returns t c = rw (← c.deref-item-items.ensures.value)
    (each_done (field_at (tree_at c.args.most Elsewhere c.args.space.now)) _ c.deref-item-items.result.now
    c.fields.item-index _ _ c.fields-test.false c.fields.invariant)

pub schema_of-returns-then-levels-eq0 : goal.schema_of-returns-then-levels-eq0
schema_of-returns-then-levels-eq0 t c = λ _. no_level c.args.levels c.args.role c.args.space.now _ (met c.args.seen)
    c.if-levels-eq0.true

pub schema_of-returns-then-seen-eq0 : goal.schema_of-returns-then-seen-eq0
schema_of-returns-then-seen-eq0 t c = λ _. none_left c.args.levels c.args.role c.args.space.now _ (met c.args.seen)
    c.if-seen-eq0.true

pub schema_of-returns : goal.schema_of-returns
schema_of-returns t c = rw (one_more c.args.levels c.args.role c.args.space.now _ (met c.args.seen) (omega arith)
    (omega arith)) c.node_of.ensures
