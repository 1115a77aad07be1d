use Rattle.std.proofs.Common.{sym, ◌∙◌}
use Rattle.std.proofs.lemmas.Result.{err_from_is_err_and}
use Rattle.ice_filter.specs.Binding.{bound_parts}
use Rattle.ice_filter.proofs.Lists.{prefixed_nil, part_here, part_fails, parts_end}
use Rattle.ice_filter.proofs.binding.bind_parts.Goals as goal

pub parts-init : goal.parts-init
parts-init c = rw c.new-bound.ensures (prefixed_nil (bound_parts c.args.schema.now c.args.parts.now))

pub returns-in_err-bind_part : goal.returns-in_err-bind_part
returns-in_err-bind_part c =
    let p = err_from_is_err_and c.from_residual.result c.from_residual.ensures.1 in
    rw (p.1, p.2) (λ ne. sym c.parts.invariant ∙ part_fails c.args.schema.now c.args.parts.now c.parts.part-index
    c.part-item.result c.parts.bound c.in_err-bind_part.field-0.0 c.parts-test.true c.part-item.is
    (c.in_err-bind_part.ensures ne))

pub parts-preserved : goal.parts-preserved
parts-preserved c = rw c.in_ok-push.ensures.ok (sym (part_here c.args.schema.now c.args.parts.now c.parts.part-index
    c.part-item.result c.parts.bound c.in_ok-bind_part.field-0 c.parts-test.true c.part-item.is
    c.in_ok-bind_part.ensures) ∙ c.parts.invariant)

pub returns : goal.returns
returns c = sym c.parts.invariant ∙ parts_end c.args.schema.now c.args.parts.now c.parts.part-index c.parts.bound
    c.parts-test.false
