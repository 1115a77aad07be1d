use Rattle.std.proofs.Common.{◌≡◌, ◌∷◌, drop}
use Rattle.ice_filter.specs.Binding.{cells_of}
use Rattle.ice_filter.proofs.Lists.{after_cells}
use Rattle.ice_filter.proofs.binding.cells_of.Given as goal

-- the cells so far, and those of the others
abbrev pub invariant-literals : goal.invariant-literals
invariant-literals l = after_cells l.cells (cells_of l.column_type (drop l.literal-index l.more)) ≡ cells_of
    l.column_type (l.first ∷ l.more)
