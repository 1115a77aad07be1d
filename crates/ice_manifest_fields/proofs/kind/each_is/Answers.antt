use Rattle.std.proofs.Common.{sym, ◌∙◌, refl}
use Rattle.ice_manifest_fields.specs.Kinds.{wanted}
use Rattle.ice_manifest_fields.proofs.Steps.{each_here, each_end}
use Rattle.ice_manifest_fields.proofs.kind.each_is.Goals as goal

pub returns-then-not-null_or : goal.returns-then-not-null_or
returns-then-not-null_or c =
    let step = each_here (wanted c.args.kind) c.args.branches.now c.branches.branch-index c.branch-item.result
    c.branches-test.true c.branch-item.is in
    sym (sym c.branches.invariant ∙ step ∙ rw (sym c.if-not-null_or.ensures) refl)

pub branches-preserved : goal.branches-preserved
branches-preserved c =
    let step = each_here (wanted c.args.kind) c.args.branches.now c.branches.branch-index c.branch-item.result
    c.branches-test.true c.branch-item.is in
    sym (sym c.branches.invariant ∙ step ∙ rw (sym c.if-not-null_or.ensures) refl)

pub returns : goal.returns
returns c = sym (each_end (wanted c.args.kind) c.args.branches.now c.branches.branch-index c.branches-test.false) ∙
    c.branches.invariant
