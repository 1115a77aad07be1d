use Rattle.std.proofs.Common.{sym, ◌∙◌}
use Rattle.std.proofs.lemmas.Result.{err_from_is_err_and}
use Rattle.ice_manifest_fields.specs.Schemas.{is_cell}
use Rattle.ice_manifest_fields.proofs.Steps.{branch_fails, branch_passes, branches_end}
use Rattle.ice_manifest_reading.proofs.tuple.check_branches.Goals as goal

pub returns-in_err-check_cell : goal.returns-in_err-check_cell
returns-in_err-check_cell c =
    let p = err_from_is_err_and c.from_residual.result c.from_residual.ensures.1 in
    rw (p.1, p.2) (sym (sym c.branches.invariant ∙ branch_fails (is_cell c.args.wanted.now.field_id) c.args.branches.now
    c.branches.branch-index c.branch-item.result _ c.branches-test.true c.branch-item.is
    c.in_err-check_cell.ensures))

pub branches-preserved : goal.branches-preserved
branches-preserved c = sym (branch_passes (is_cell c.args.wanted.now.field_id) c.args.branches.now
    c.branches.branch-index c.branch-item.result _ c.branches-test.true c.branch-item.is c.in_ok-check_cell.ensures) ∙
    c.branches.invariant

pub returns : goal.returns
returns c = sym (branches_end (is_cell c.args.wanted.now.field_id) c.args.branches.now c.branches.branch-index
    c.branches-test.false) ∙ c.branches.invariant
