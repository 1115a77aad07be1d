use Rattle.std.proofs.Common.{take}
use Rattle.ice_state_sections.specs.Values.{cell}
use Rattle.ice_state_sections.proofs.Added.{Goes}
use Rattle.ice_state_sections.proofs.value_writing.add_cells.Given as goal

abbrev pub invariant-cells : goal.invariant-cells
invariant-cells l = Goes (λ _. cell) (take l.cell-index l.cells) l.initial.bytes.items l.bytes.items
