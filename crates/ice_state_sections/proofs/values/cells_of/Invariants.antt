use Rattle.std.proofs.Common.{◌≡◌, ◌-◌}
use Rattle.ice_state_sections.specs.Parts.{behind}
use Rattle.ice_state_sections.specs.Values.{cell, cells}
use Rattle.ice_state_sections.proofs.values.cells_of.Given as goal

abbrev pub invariant-cells : goal.invariant-cells
invariant-cells l = behind (λ _. cell) (l.count - l.counter) l.cells l.rest ≡ cells l.count l.bytes
