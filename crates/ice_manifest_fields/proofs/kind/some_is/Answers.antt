use Rattle.std.proofs.Common.{sym, ◌∙◌, refl}
use Rattle.ice_manifest_fields.specs.Kinds.{wanted}
use Rattle.ice_manifest_fields.proofs.Steps.{some_here, some_end}
use Rattle.ice_manifest_fields.proofs.kind.some_is.Goals as goal

pub returns-then-is_of : goal.returns-then-is_of
returns-then-is_of c =
    let step = some_here (wanted c.args.kind) c.args.branches.now c.branches.branch-index c.branch-item.result
    c.branches-test.true c.branch-item.is in
    sym (sym c.branches.invariant ∙ step ∙ rw (sym c.if-is_of.ensures) refl)

pub branches-preserved : goal.branches-preserved
branches-preserved c =
    let step = some_here (wanted c.args.kind) c.args.branches.now c.branches.branch-index c.branch-item.result
    c.branches-test.true c.branch-item.is in
    sym (sym c.branches.invariant ∙ step ∙ rw (sym c.if-is_of.ensures) refl)

pub returns : goal.returns
returns c = sym (some_end (wanted c.args.kind) c.args.branches.now c.branches.branch-index c.branches-test.false) ∙
    c.branches.invariant
