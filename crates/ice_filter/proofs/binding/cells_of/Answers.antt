use Rattle.std.proofs.Common.{sym, ◌∙◌}
use Rattle.ice_filter.proofs.Lists.{cell_here}
use Rattle.ice_filter.proofs.binding.cells_of.Goals as goal

pub literals-preserved : goal.literals-preserved
literals-preserved c =
    rw c.in_ok-push-in-Some-2.ensures.ok (sym (cell_here c.args.column_type c.args.more.now c.literals.literal-index
    c.literal-item.result c.literals.cells c.in-Some-2.cell c.literals-test.true c.literal-item.is
    (sym c.in_ok-cell-2.ensures ∙ c.in-Some-2.is)) ∙ c.literals.invariant)
