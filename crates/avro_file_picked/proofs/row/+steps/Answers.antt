use Rattle.std.proofs.Common.{◌≡◌, ◌++◌, List, refl, subst}
use Rattle.avro_schema.specs.Tree.{Tree}
use Rattle.avro_schema.specs.View.{tree}
use Rattle.avro_file.proofs.Views.{tree-Record}
use Rattle.avro_file_picked.specs.Rows.{row, trees_of, AreAlike}
use Rattle.avro_file_picked.proofs.Rows.{rows_on, rows_done}
use Rattle.avro_file_picked.proofs.row.+steps.Goals as goal

pub push_fields-fields-init : goal.push_fields-fields-init
push_fields-fields-init t c = λ ts alike. (ts, alike, refl)

pub push_fields-fields-preserved : goal.push_fields-fields-preserved
push_fields-fields-preserved t c = λ ts alike.
    let i = c.fields.invariant ts alike in (
      i.0 ++ row (tree c.field-item.result.schema),
      c.in_ok-push_row.ensures i.0 i.1,
      rows_on c.args.fields.now c.fields.field-index c.field-item.result i.0 _ c.fields-test.true c.field-item.is i.2,
    )

pub push_fields-returns : goal.push_fields-returns
push_fields-returns t c = λ ts alike.
    let i = c.fields.invariant ts alike in
    let all = rows_done c.args.fields.now c.fields.field-index i.0 _ c.fields-test.false i.2 in
    subst (λ (us : List Tree). AreAlike (trees_of c.fields.steps.items) us) all i.1

pub push_row-returns-in-Record : goal.push_row-returns-in-Record
push_row-returns-in-Record t c =
    let here : c.deref.result.now ≡ c.in-Record.fields.value = c.deref.ensures in
    rw (c.in-Record.is, tree-Record c.in-Record.fields, ← here, ← c.deref-in-Record.ensures.value) c.push_fields.ensures
