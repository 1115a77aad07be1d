use Rattle.std.proofs.Common.{sym, ◌∙◌, refl, arith}
use Rattle.avro_schema.proofs.Walks.{field_high, branch_high, no_field_high, no_branch_high, none_may, one_less}
use Rattle.avro_schema.proofs.repeat.+levels.Goals as goal

pub any_field_deeper-returns-then-is_deeper : goal.any_field_deeper-returns-then-is_deeper
any_field_deeper-returns-then-is_deeper t c =
    let step = field_high c.deref-field-items.result.now c.fields.field-index c.args.most c.field-item.result
    c.fields-test.true c.field-item.is in
    rw (← c.deref-field-items.ensures.value) (sym (sym c.fields.invariant ∙ step ∙ rw (sym c.if-is_deeper.ensures)
    refl))

pub any_branch_deeper-returns-then-is_deeper : goal.any_branch_deeper-returns-then-is_deeper
any_branch_deeper-returns-then-is_deeper t c =
    let step = branch_high c.deref-branch-items.result.now c.branches.branch-index c.args.most c.branch-item.result
    c.branches-test.true c.branch-item.is in
    rw (← c.deref-branch-items.ensures.value) (sym (sym c.branches.invariant ∙ step ∙ rw (sym c.if-is_deeper.ensures)
    refl))

pub any_field_deeper-fields-preserved : goal.any_field_deeper-fields-preserved
any_field_deeper-fields-preserved t c =
    let step = field_high c.deref-field-items.result.now c.fields.field-index c.args.most c.field-item.result
    c.fields-test.true c.field-item.is in
    sym (sym c.fields.invariant ∙ step ∙ rw (sym c.if-is_deeper.ensures) refl)

pub any_branch_deeper-branches-preserved : goal.any_branch_deeper-branches-preserved
any_branch_deeper-branches-preserved t c =
    let step = branch_high c.deref-branch-items.result.now c.branches.branch-index c.args.most c.branch-item.result
    c.branches-test.true c.branch-item.is in
    sym (sym c.branches.invariant ∙ step ∙ rw (sym c.if-is_deeper.ensures) refl)

pub any_field_deeper-returns : goal.any_field_deeper-returns
any_field_deeper-returns t c = rw (← c.deref-field-items.ensures.value)
    (sym (no_field_high c.deref-field-items.result.now c.fields.field-index c.args.most c.fields-test.false) ∙
    c.fields.invariant)

pub any_branch_deeper-returns : goal.any_branch_deeper-returns
any_branch_deeper-returns t c = rw (← c.deref-branch-items.ensures.value)
    (sym (no_branch_high c.deref-branch-items.result.now c.branches.branch-index c.args.most c.branches-test.false) ∙
    c.branches.invariant)

pub is_deeper-returns-then-most-eq0 : goal.is_deeper-returns-then-most-eq0
is_deeper-returns-then-most-eq0 t c = sym (none_may c.args.most _ c.if-most-eq0.true)

pub is_deeper-returns : goal.is_deeper-returns
is_deeper-returns t c = c.is_higher.ensures ∙ one_less c.args.most _ (omega arith)
