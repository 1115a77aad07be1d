use Rattle.ice_state_sections.specs.Values.{cell}
use Rattle.ice_state_sections.proofs.Added.{none_yet, goes_further, goes_all}
use Rattle.ice_state_sections.proofs.value_writing.add_cells.Goals as goal

pub cells-init : goal.cells-init
cells-init c = none_yet (λ _. cell) _

pub cells-preserved : goal.cells-preserved
cells-preserved c = goes_further (λ _. cell) c.args.cells.now c.cells.cell-index _ _ _ _ c.cells-test.true
    c.cell-item.is c.cells.invariant c.in_ok-bytes.ensures

pub returns : goal.returns
returns c = goes_all (λ _. cell) c.args.cells.now c.cells.cell-index _ _ c.cells-test.false c.cells.invariant
