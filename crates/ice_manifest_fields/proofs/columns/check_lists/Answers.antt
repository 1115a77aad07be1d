use Rattle.std.proofs.Common.{sym, ◌∙◌}
use Rattle.std.proofs.lemmas.Result.{err_from_is_err_and}
use Rattle.ice_manifest_fields.specs.Schemas.{lists_pairs}
use Rattle.ice_manifest_fields.proofs.Steps.{branch_fails, branch_passes, branches_end}
use Rattle.ice_manifest_fields.proofs.columns.check_lists.Goals as goal

pub returns-in_err-check_list : goal.returns-in_err-check_list
returns-in_err-check_list c =
    let p = err_from_is_err_and c.from_residual.result c.from_residual.ensures.1 in
    rw (p.1, p.2) (sym (sym c.branches.invariant ∙ branch_fails (lists_pairs c.args.map) c.args.branches.now
    c.branches.branch-index c.branch-item.result _ c.branches-test.true c.branch-item.is
    c.in_err-check_list.ensures))

pub branches-preserved : goal.branches-preserved
branches-preserved c = sym (branch_passes (lists_pairs c.args.map) c.args.branches.now c.branches.branch-index
    c.branch-item.result _ c.branches-test.true c.branch-item.is c.in_ok-check_list.ensures) ∙ c.branches.invariant

pub returns : goal.returns
returns c = sym (branches_end (lists_pairs c.args.map) c.args.branches.now c.branches.branch-index
    c.branches-test.false) ∙ c.branches.invariant
