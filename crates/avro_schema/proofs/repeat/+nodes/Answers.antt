use Rattle.std.proofs.Common.{sym, ap, ◌∙◌}
use Rattle.avro_schema.specs.Size.{left_after}
use Rattle.avro_schema.proofs.Walks.{less_on, less_fails, fields_step, branches_step, fields_end, branches_end}
use Rattle.avro_schema.proofs.repeat.+nodes.Goals as goal

pub spend_fields-fields-preserved : goal.spend_fields-fields-preserved
spend_fields-fields-preserved t c =
    let step = fields_step c.deref-field-items.result.now c.fields.field-index c.field-item.result c.fields-test.true
    c.field-item.is in
    less_on c.fields.now _ _ _ _ (sym (ap (left_after c.fields.now) step) ∙ c.fields.invariant) c.in_ok-now.ensures

pub spend_branches-branches-preserved : goal.spend_branches-branches-preserved
spend_branches-branches-preserved t c =
    let step = branches_step c.deref-branch-items.result.now c.branches.branch-index c.branch-item.result
    c.branches-test.true c.branch-item.is in
    less_on c.branches.now _ _ _ _ (sym (ap (left_after c.branches.now) step) ∙ c.branches.invariant)
    c.in_ok-now.ensures

pub spend_fields-returns-in_err-now : goal.spend_fields-returns-in_err-now
spend_fields-returns-in_err-now t c =
    let step = fields_step c.deref-field-items.result.now c.fields.field-index c.field-item.result c.fields-test.true
    c.field-item.is in
    rw (c.from_residual.ensures, ← c.deref-field-items.ensures.value) (less_fails c.fields.now _ _ _
    (sym (ap (left_after c.fields.now) step) ∙ c.fields.invariant) c.in_err-now.ensures)

pub spend_branches-returns-in_err-now : goal.spend_branches-returns-in_err-now
spend_branches-returns-in_err-now t c =
    let step = branches_step c.deref-branch-items.result.now c.branches.branch-index c.branch-item.result
    c.branches-test.true c.branch-item.is in
    rw (c.from_residual.ensures, ← c.deref-branch-items.ensures.value) (less_fails c.branches.now _ _ _
    (sym (ap (left_after c.branches.now) step) ∙ c.branches.invariant) c.in_err-now.ensures)

pub spend_fields-returns : goal.spend_fields-returns
spend_fields-returns t c = rw (← c.deref-field-items.ensures.value)
    (sym (fields_end c.deref-field-items.result.now c.fields.field-index c.fields.now c.fields-test.false) ∙
    c.fields.invariant)

pub spend_branches-returns : goal.spend_branches-returns
spend_branches-returns t c = rw (← c.deref-branch-items.ensures.value)
    (sym (branches_end c.deref-branch-items.result.now c.branches.branch-index c.branches.now c.branches-test.false) ∙
    c.branches.invariant)
