use Rattle.std.proofs.lemmas.Result.{err_from_is_err_and}
use Rattle.ice_state_sections.specs.Values.{cell, cells}
use Rattle.ice_state_sections.proofs.Loops.{goes_on, ends, is_done}
use Rattle.ice_state_sections.proofs.values.cells_of.Goals as goal

pub returns-in_err-cell : goal.returns-in_err-cell
returns-in_err-cell c =
    let p = err_from_is_err_and c.from_residual.result c.from_residual.ensures.1 in
    rw (p.1, p.2) (λ not_memory. ends (λ _. cell) c.cells.cells c.args.count c.cells.counter c.cells.rest.now
    c.in_err-cell.field-0.0 (cells c.args.count c.args.bytes.now) c.cells-test.true (c.in_err-cell.ensures not_memory)
    c.cells.invariant)

pub cells-preserved : goal.cells-preserved
cells-preserved c = rw (c.in_ok-push.ensures.ok) (goes_on (λ _. cell) c.cells.cells c.args.count c.cells.counter
    c.cells.rest.now c.in_ok-cell.cell c.in_ok-cell.after.now (cells c.args.count c.args.bytes.now) c.cells-test.true
    c.in_ok-cell.ensures c.cells.invariant)

pub returns : goal.returns
returns c = is_done (λ _. cell) c.cells.cells c.args.count c.cells.counter c.cells.rest.now
    (cells c.args.count c.args.bytes.now) c.cells-test.false c.cells.invariant
